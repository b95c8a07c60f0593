use Rattle.pearl_silent.specs.Steps.{top_cells}
use Rattle.pearl_silent.proofs.Filling.{KeepsRest, Fills}
use Rattle.pearl_silent.proofs.cells.fill_cells.Given as goal

abbrev pub invariant-loop-i : goal.invariant-loop-i
invariant-loop-i l = record {
  keeps : KeepsRest l.initial.stack l.stack;
  fills : Fills (top_cells l.initial.stack.frames) l.first l.count l.i l.kind (top_cells l.stack.frames);
}
