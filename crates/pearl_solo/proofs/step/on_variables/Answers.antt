use Rattle.pearl_exchange.specs.Offers.{action_of}
use Rattle.pearl_solo.specs.Gives.{gave}
use Rattle.pearl_solo.proofs.Families.{beyond_variables}
use Rattle.pearl_instructions.specs.declared.instr.Instr.TheVariants.{ReadAt}
use Rattle.pearl_silent.proofs.Offered.{does_as, ready_at}
use Rattle.pearl_solo.proofs.step.on_variables.Goals as goal

pub read_at-requires-clause-ready : goal.read_at-requires-clause-ready
read_at-requires-clause-ready c = ready_at c.args.code.now c.args.instr.now (ReadAt c.in-ReadAt.v) c.args.here.now c.args.stack.now c.in-ReadAt.is c.requires.at

pub returns-in-ReadAt : goal.returns-in-ReadAt
returns-in-ReadAt c = does_as c.args.code.now c.args.instr.now (ReadAt c.in-ReadAt.v) c.args.stack.now c.args.stack.now (gave c.read_at.result (action_of c.read_at.new.into)) c.in-ReadAt.is c.read_at.ensures

pub on_tasks-requires-clause-family : goal.on_tasks-requires-clause-family
on_tasks-requires-clause-family c = beyond_variables c.args.instr.now c.requires.family c.in_default.not-Read c.in_default.not-Write c.in_default.not-ReadAt c.in_default.not-WriteAt c.in_default.not-RefSlot c.in_default.not-RefSlotAt
