use Rattle.std.proofs.Common.{take}
use Rattle.pearl_names.proofs.Laid.{BoundsSo}
use Rattle.pearl_names.proofs.forms.all_bounds.Given as goal

abbrev pub invariant-loop-bound : goal.invariant-loop-bound
invariant-loop-bound l = BoundsSo l.found.items (take l.bound-index l.bounds)
