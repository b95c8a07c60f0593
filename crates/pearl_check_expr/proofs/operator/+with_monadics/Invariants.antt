use Rattle.std.proofs.Common.{length}
use Rattle.pearl_check_expr.proofs.operator.«+with_monadics».Given as goal

abbrev pub decreases-with_monadics : goal.decreases-with_monadics
decreases-with_monadics l = length l.monadics.now
