use Rattle.std.proofs.Common.{◌≡◌, take}
use Rattle.pearl_saved.specs.Stacks.{stack_record}
use Rattle.pearl_saved.proofs.stacks.recorded_stack.Given as goal

abbrev pub invariant-loop-frame : goal.invariant-loop-frame
invariant-loop-frame l = l.frames.items ≡ take l.frame (stack_record l.stack.frames)
