-- What the loops keep, and what shrinks: the brackets that may still stand, then the way down from class to class.
use Rattle.std.proofs.Common.{◌+◌, ◌-◌, ◌*◌, length}
use Rattle.pearl_tree.specs.Expressions.{SpellsExpr}
use Rattle.pearl_parse_expr.specs.Stops.{extends_expression}
use Rattle.pearl_parse_expr.proofs.CommaLists.{ListRead}
use Rattle.pearl_parse_expr.proofs.Loops.{SelectorsRead, ChainRead}
use Rattle.pearl_parse_expr.proofs.expression.+expression.Given as goal

abbrev pub decreases-subscripts : goal.decreases-subscripts
decreases-subscripts l = 9 * l.depth + 8

abbrev pub decreases-expression_at_depth : goal.decreases-expression_at_depth
decreases-expression_at_depth l = 9 * l.depth + 7

abbrev pub decreases-operand : goal.decreases-operand
decreases-operand l = 9 * l.depth + 6

abbrev pub decreases-primary : goal.decreases-primary
decreases-primary l = 9 * l.depth + 5

abbrev pub decreases-group : goal.decreases-group
decreases-group l = 9 * l.depth + 4

abbrev pub decreases-limit : goal.decreases-limit
decreases-limit l = 9 * l.depth + 4

abbrev pub decreases-reference : goal.decreases-reference
decreases-reference l = 9 * l.depth + 3

abbrev pub decreases-selectors : goal.decreases-selectors
decreases-selectors l = 9 * l.depth + 2

abbrev pub decreases-selector : goal.decreases-selector
decreases-selector l = 9 * l.depth + 1

abbrev pub decreases-bracketed : goal.decreases-bracketed
decreases-bracketed l = 9 * l.depth

abbrev pub invariant-expression_at_depth-each : goal.invariant-expression_at_depth-each
invariant-expression_at_depth-each l = ChainRead l.tokens l.depth l.from l.read.part l.count l.read.end l.read.stop

abbrev pub decreases-expression_at_depth-each : goal.decreases-expression_at_depth-each
decreases-expression_at_depth-each l = 100 - l.count

abbrev pub invariant-selectors-each : goal.invariant-selectors-each
invariant-selectors-each l = SelectorsRead l.tokens l.depth l.from l.list.part.items l.list.end l.list.stop

abbrev pub decreases-selectors-each : goal.decreases-selectors-each
decreases-selectors-each l = length l.tokens - l.list.end

abbrev pub invariant-subscripts-each : goal.invariant-subscripts-each
invariant-subscripts-each l = ListRead (λ tokens. SpellsExpr tokens l.depth) extends_expression l.tokens l.from
    l.list.part.items l.list.end l.list.stop

abbrev pub decreases-subscripts-each : goal.decreases-subscripts-each
decreases-subscripts-each l = length l.tokens - l.list.end
