use Rattle.std.proofs.Common.{length}
use Rattle.pearl_resolve.proofs.PlacingSteps.{PlacedSo}
use Rattle.pearl_resolve.proofs.placing.placed.Given as goal

abbrev pub invariant-loop-procedure : goal.invariant-loop-procedure
invariant-loop-procedure l = PlacedSo l.numbers l.fn.procedures.items l.left.items l.places.items (length l.numbers)

abbrev pub decreases-loop-procedure : goal.decreases-loop-procedure
decreases-loop-procedure l = length l.left.items
