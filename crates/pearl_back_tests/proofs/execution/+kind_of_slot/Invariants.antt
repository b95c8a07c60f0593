use Rattle.std.proofs.Common.{length}
use Rattle.pearl_back_tests.proofs.execution.+kind_of_slot.Given as goal

abbrev pub decreases-kind_of_slot : goal.decreases-kind_of_slot
decreases-kind_of_slot l = length l.leaves.now
