use Rattle.std.proofs.Common.{◌≡◌, ◌++◌, map, take, drop}
use Rattle.pearl_saved.specs.Filling.{top_cells, with_cells}
use Rattle.pearl_saved.specs.Stacks.{cell_made}
use Rattle.pearl_saved.proofs.stacks.set_cells.Given as goal

abbrev pub invariant-loop-c : goal.invariant-loop-c
invariant-loop-c l =
    l.stack ≡ record l.initial.stack { frames = with_cells (map cell_made (take l.c l.cells) ++ drop l.c (top_cells l.initial.stack.frames)) l.initial.stack.frames }
