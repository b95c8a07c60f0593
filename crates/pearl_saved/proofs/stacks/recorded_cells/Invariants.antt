use Rattle.std.proofs.Common.{◌≡◌, map, take}
use Rattle.pearl_stack.specs.Frames.{frame_at}
use Rattle.pearl_saved.specs.Filling.{cells_in}
use Rattle.pearl_saved.specs.Stacks.{cell_record}
use Rattle.pearl_saved.proofs.stacks.recorded_cells.Given as goal

abbrev pub invariant-loop-c : goal.invariant-loop-c
invariant-loop-c l = l.cells.items ≡ map cell_record (take l.c (cells_in (frame_at l.stack.frames l.frame)))
