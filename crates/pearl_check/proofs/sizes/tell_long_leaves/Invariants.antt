use Rattle.std.proofs.Common.{length}
use Rattle.pearl_check.proofs.Passing.{Tells}
use Rattle.pearl_check.proofs.sizes.tell_long_leaves.Given as goal

abbrev pub invariant-loop-names : goal.invariant-loop-names
invariant-loop-names l = Tells l.forms l.fn.senses l.senses l.fn.names l.names l.fn.faults.items l.faults.items

abbrev pub decreases-loop-names : goal.decreases-loop-names
decreases-loop-names l = length l.names
