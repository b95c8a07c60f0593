use Rattle.std.proofs.Common.{length}
use Rattle.pearl_back_tests.proofs.execution.+left.Given as goal

abbrev pub decreases-left : goal.decreases-left
decreases-left l = length l.rows.now
