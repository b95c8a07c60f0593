use Rattle.std.proofs.Common.{refl}
use Rattle.pearl_instructions.specs.declared.instr.Instr.TheVariants.{JumpZero, Within}
use Rattle.pearl_silent.specs.Steps.{sizes_of, told}
use Rattle.pearl_silent.proofs.Families.{beyond_jumps}
use Rattle.pearl_silent.proofs.Standing.{does_as, ready_at}
use Rattle.pearl_silent.proofs.step.on_jumps.Goals as goal

pub jump_zero-requires-clause-ready : goal.jump_zero-requires-clause-ready
jump_zero-requires-clause-ready c = ready_at c.args.code.now c.args.instr.now (JumpZero c.in-JumpZero.i) (sizes_of c.args.stack.now.frames) c.args.stack.now c.in-JumpZero.is c.requires.at

pub returns-in-JumpZero : goal.returns-in-JumpZero
returns-in-JumpZero c = does_as c.args.code.now c.args.instr.now (JumpZero c.in-JumpZero.i) c.args.stack.now c.jump_zero.new.stack (told c.jump_zero.result) c.in-JumpZero.is c.jump_zero.ensures

pub within-requires-clause-ready : goal.within-requires-clause-ready
within-requires-clause-ready c = ready_at c.args.code.now c.args.instr.now (Within c.in-Within.c) (sizes_of c.args.stack.now.frames) c.args.stack.now c.in-Within.is c.requires.at

pub returns-in-Within : goal.returns-in-Within
returns-in-Within c = does_as c.args.code.now c.args.instr.now (Within c.in-Within.c) c.args.stack.now c.within.new.stack (told c.within.result) c.in-Within.is c.within.ensures

pub returns-in_default : goal.returns-in_default
returns-in_default c = (beyond_jumps c.args.instr.now c.requires.family c.in_default.not-Jump c.in_default.not-JumpZero c.in_default.not-Case c.in_default.not-Return c.in_default.not-Within c.in_default.not-Advance, refl)
