use Rattle.std.proofs.Common.{length}
use Rattle.pearl_check.specs.Sizes.{cells}
use Rattle.pearl_check.proofs.Passing.{Sums}
use Rattle.pearl_check.proofs.callers.cells_in_scope.Given as goal

abbrev pub invariant-loop-senses : goal.invariant-loop-senses
invariant-loop-senses l = Sums cells l.forms l.fn.senses l.senses l.sum

abbrev pub decreases-loop-senses : goal.decreases-loop-senses
decreases-loop-senses l = length l.senses
