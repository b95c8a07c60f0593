use Rattle.std.proofs.Common.{◌≡◌, map, take}
use Rattle.pearl_stack.specs.Frames.{frame_at}
use Rattle.pearl_saved.specs.Filling.{operands_in}
use Rattle.pearl_saved.specs.Stacks.{cell_record}
use Rattle.pearl_saved.proofs.stacks.recorded_operands.Given as goal

abbrev pub invariant-loop-at : goal.invariant-loop-at
invariant-loop-at l = l.operands.items ≡ map cell_record (take l.at (operands_in (frame_at l.stack.frames l.frame)))
