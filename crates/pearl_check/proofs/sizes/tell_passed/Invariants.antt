use Rattle.std.proofs.Common.{length}
use Rattle.pearl_check.specs.SizeSorts.{added, limit}
use Rattle.pearl_check.proofs.Passing.{Passes}
use Rattle.pearl_check.proofs.sizes.tell_passed.Given as goal

abbrev pub invariant-loop-names : goal.invariant-loop-names
invariant-loop-names l = Passes (added l.size) (limit l.size) l.forms l.fn.senses l.senses l.fn.names l.names l.before l.fn.faults.items l.faults.items

abbrev pub decreases-loop-names : goal.decreases-loop-names
decreases-loop-names l = length l.names
