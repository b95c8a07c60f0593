use Rattle.pearl_kernel.proofs.SameReads.{AreSameTo}
use Rattle.pearl_kernel.proofs.alike.are_same_kinds.Given as goal

abbrev pub invariant-loop-place : goal.invariant-loop-place
invariant-loop-place l = AreSameTo l.kinds l.others l.place
