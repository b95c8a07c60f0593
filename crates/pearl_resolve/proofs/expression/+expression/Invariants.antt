use Rattle.std.proofs.Common.{◌≡◌, ◌+◌, ◌*◌, take, drop, map}
use denote.Param.Weighed.{most}
use Rattle.pearl_tree.proofs.expression.Expr.TheLaws.{the_size as expr_size}
use Rattle.pearl_tree.proofs.expression.Primary.TheLaws.{the_size as primary_size}
use Rattle.pearl_tree.proofs.expression.Ref.TheLaws.{the_size as ref_size}
use Rattle.pearl_tree.proofs.expression.Selector.TheLaws.{the_size as selector_size}
use Rattle.pearl_tree.specs.ShownExpressions.{shown_expr_list, shown_selector_list}
use Rattle.pearl_names.specs.Holding.{parameter_of}
use Rattle.pearl_program.specs.PlainExpressions.{plain_arguments, plain_exprs}
use Rattle.pearl_resolve.specs.Expressions.{Numbered, Walk, along, joined_exprs, resolve_exprs, resolve_arguments}
use Rattle.pearl_resolve.specs.Holding.{HoldsNumbered, HoldsWalk}
use Rattle.pearl_resolve.proofs.PlainNodes.{joined_arguments}
use Rattle.pearl_resolve.proofs.expression.«+expression».Given as goal

abbrev pub invariant-go_along-loop-selector : goal.invariant-go_along-loop-selector
invariant-go_along-loop-selector l = (of : Numbered) → HoldsNumbered l.numbered of → (from : Walk) →
    HoldsWalk l.numbered.table.forms.items l.fn.walk from →
    HoldsWalk l.numbered.table.forms.items l.walk (along of l.view from (shown_selector_list (take l.selector-index l.selectors)))

abbrev pub invariant-add_exprs-loop-expr : goal.invariant-add_exprs-loop-expr
invariant-add_exprs-loop-expr l = (of : Numbered) → HoldsNumbered l.numbered of →
    joined_exprs (plain_exprs l.into.items) (resolve_exprs of l.view (shown_expr_list (drop l.expr-index l.exprs))) ≡
    joined_exprs (plain_exprs l.fn.into.items) (resolve_exprs of l.view (shown_expr_list l.exprs))

abbrev pub invariant-resolve_arguments-loop-index : goal.invariant-resolve_arguments-loop-index
invariant-resolve_arguments-loop-index l = (of : Numbered) → HoldsNumbered l.numbered of →
    joined_arguments (plain_arguments l.arguments.items)
    (resolve_arguments of l.view (drop l.index (map parameter_of l.parameters)) (shown_expr_list (drop l.index l.exprs))) ≡
    resolve_arguments of l.view (map parameter_of l.parameters) (shown_expr_list l.exprs)

abbrev pub decreases-resolve_expr : goal.decreases-resolve_expr
decreases-resolve_expr l = 8 * expr_size l.expr.now

abbrev pub decreases-resolve_primary : goal.decreases-resolve_primary
decreases-resolve_primary l = 8 * primary_size l.primary.now

abbrev pub decreases-resolve_ref : goal.decreases-resolve_ref
decreases-resolve_ref l = 8 * ref_size l.reference.now + 3

abbrev pub decreases-resolve_variable : goal.decreases-resolve_variable
decreases-resolve_variable l = 8 * ref_size l.reference.now + 2

abbrev pub decreases-resolve_limit : goal.decreases-resolve_limit
decreases-resolve_limit l = 8 * ref_size l.array.now + 2

abbrev pub decreases-walk_ref : goal.decreases-walk_ref
decreases-walk_ref l = 8 * ref_size l.reference.now + 1

abbrev pub decreases-go_along : goal.decreases-go_along
decreases-go_along l = 8 * most selector_size l.selectors.now + 1

abbrev pub decreases-step : goal.decreases-step
decreases-step l = 8 * selector_size l.selector.now

abbrev pub decreases-add_exprs : goal.decreases-add_exprs
decreases-add_exprs l = 8 * most expr_size l.exprs.now + 1

abbrev pub decreases-resolve_arguments : goal.decreases-resolve_arguments
decreases-resolve_arguments l = 8 * most expr_size l.exprs.now + 1

abbrev pub decreases-first_arguments : goal.decreases-first_arguments
decreases-first_arguments l = 8 * selector_size l.selector.now

abbrev pub decreases-resolve_call : goal.decreases-resolve_call
decreases-resolve_call l = 8 * most selector_size l.selectors.now + 1
