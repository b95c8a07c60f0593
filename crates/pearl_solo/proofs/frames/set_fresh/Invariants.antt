use Rattle.pearl_silent.specs.Steps.{top_cells}
use Rattle.pearl_silent.proofs.Offered.{KeepsRest, Freshens}
use Rattle.pearl_solo.proofs.frames.set_fresh.Given as goal

abbrev pub invariant-loop-i : goal.invariant-loop-i
invariant-loop-i l = record {
  keeps : KeepsRest l.initial.stack l.stack;
  fresh : Freshens (top_cells l.initial.stack.frames) l.kinds l.from l.i (top_cells l.stack.frames);
}
