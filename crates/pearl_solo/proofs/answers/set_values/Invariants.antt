use Rattle.std.proofs.Common.{◌-◌, length, take}
use Rattle.pearl_silent.specs.Steps.{top_cells}
use Rattle.pearl_silent.proofs.Offered.{KeepsRest}
use Rattle.pearl_solo.proofs.Writing.{Writes}
use Rattle.pearl_solo.proofs.answers.set_values.Given as goal

abbrev pub invariant-loop-done : goal.invariant-loop-done
invariant-loop-done l = record {
  keeps : KeepsRest l.initial.stack l.stack;
  writes : Writes (top_cells l.initial.stack.frames) l.first l.values (take (length l.values - l.done) l.values) (top_cells l.stack.frames);
}
