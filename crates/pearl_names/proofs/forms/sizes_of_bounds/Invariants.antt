use Rattle.std.proofs.Common.{take}
use Rattle.pearl_names.proofs.Sized.{SizedSo}
use Rattle.pearl_names.proofs.forms.sizes_of_bounds.Given as goal

abbrev pub invariant-loop-bound : goal.invariant-loop-bound
invariant-loop-bound l = SizedSo l.sizes (take l.bound-index l.bounds)
