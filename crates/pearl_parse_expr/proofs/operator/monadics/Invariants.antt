-- The operators are read as far as the list goes, and no token twice.
use Rattle.std.proofs.Common.{◌-◌, length}
use Rattle.pearl_parse_expr.proofs.Loops.{MonadicsRead}
use Rattle.pearl_parse_expr.proofs.operator.monadics.Given as goal

abbrev pub invariant-each : goal.invariant-each
invariant-each l = MonadicsRead l.tokens l.from l.list.part.items l.list.end l.list.stop

abbrev pub decreases-each : goal.decreases-each
decreases-each l = 8 - length l.list.part.items
