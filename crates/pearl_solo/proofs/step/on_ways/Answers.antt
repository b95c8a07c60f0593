use Rattle.pearl_exchange.specs.Offers.{action_of}
use Rattle.pearl_solo.specs.Gives.{gave}
use Rattle.pearl_solo.proofs.Families.{beyond_ways}
use Rattle.pearl_instructions.specs.declared.instr.Instr.TheVariants.{ReadRef, WriteRef}
use Rattle.pearl_silent.proofs.Offered.{does_as, ready_at}
use Rattle.pearl_solo.proofs.step.on_ways.Goals as goal

pub read_ref-requires-clause-ready : goal.read_ref-requires-clause-ready
read_ref-requires-clause-ready c = ready_at c.args.code.now c.args.instr.now ReadRef c.args.here.now c.args.stack.now c.in-ReadRef.is c.requires.at

pub returns-in-ReadRef : goal.returns-in-ReadRef
returns-in-ReadRef c = does_as c.args.code.now c.args.instr.now ReadRef c.args.stack.now c.read_ref.new.stack (gave c.read_ref.result (action_of c.read_ref.new.into)) c.in-ReadRef.is c.read_ref.ensures

pub write_ref-requires-clause-ready : goal.write_ref-requires-clause-ready
write_ref-requires-clause-ready c = ready_at c.args.code.now c.args.instr.now WriteRef c.args.here.now c.args.stack.now c.in-WriteRef.is c.requires.at

pub returns-in-WriteRef : goal.returns-in-WriteRef
returns-in-WriteRef c = does_as c.args.code.now c.args.instr.now WriteRef c.args.stack.now c.write_ref.new.stack (gave c.write_ref.result (action_of c.write_ref.new.into)) c.in-WriteRef.is c.write_ref.ensures

pub on_variables-requires-clause-family : goal.on_variables-requires-clause-family
on_variables-requires-clause-family c = beyond_ways c.args.instr.now c.requires.family c.in_default.not-Turn c.in_default.not-Call c.in_default.not-End c.in_default.not-Trap c.in_default.not-ReadRef c.in_default.not-WriteRef
