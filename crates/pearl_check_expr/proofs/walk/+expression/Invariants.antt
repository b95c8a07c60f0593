use Rattle.std.proofs.Common.{◌≡◌, ◌+◌, ◌*◌, [], ◌++◌, take, map}
use denote.Param.Weighed.{most}
use Rattle.pearl_tree.proofs.expression.Expr.TheLaws.{the_size as expr_size}
use Rattle.pearl_tree.proofs.expression.Primary.TheLaws.{the_size as primary_size}
use Rattle.pearl_tree.proofs.expression.Ref.TheLaws.{the_size as ref_size}
use Rattle.pearl_tree.proofs.expression.Selector.TheLaws.{the_size as selector_size}
use Rattle.pearl_tree.specs.ShownExpressions.{shown_expr_list, shown_selector_list}
use Rattle.pearl_names.specs.Holding.{HoldsTable, parameter_of}
use Rattle.pearl_names.specs.Tables.{Table}
use Rattle.pearl_check_expr.specs.Standings.{Standing, walked_on}
use Rattle.pearl_check_expr.specs.Judged.{along, judged_all, beyond, arguments}
use Rattle.pearl_check_expr.specs.Answers.{StandsAt, IsWalked, AreArguments}
use Rattle.pearl_check_expr.proofs.Walking.{AreKnown}
use Rattle.pearl_check_expr.proofs.walk.«+expression».Given as goal

abbrev pub invariant-walk-loop-selector : goal.invariant-walk-loop-selector
invariant-walk-loop-selector l = (t : Table) → HoldsTable l.table t → (from : Standing) → StandsAt l.table.forms.items l.fn.start from →
    IsWalked l.table.forms.items l.standing l.fn.found.items l.found.items (along t l.view l.name (walked_on from []) (shown_selector_list (take l.selector-index l.selectors)))

abbrev pub invariant-judge_all-loop-expr : goal.invariant-judge_all-loop-expr
invariant-judge_all-loop-expr l = (t : Table) → HoldsTable l.table t →
    AreKnown l.fixed l.known l.fn.found.items l.found.items (judged_all t l.view (shown_expr_list (take l.expr-index l.exprs)))

abbrev pub invariant-judge_beyond-loop-selector : goal.invariant-judge_beyond-loop-selector
invariant-judge_beyond-loop-selector l = (t : Table) → HoldsTable l.table t →
    l.found.items ≡ l.fn.found.items ++ beyond t l.view l.name (shown_selector_list (take l.selector-index l.selectors))

abbrev pub invariant-judge_each-loop-index : goal.invariant-judge_each-loop-index
invariant-judge_each-loop-index l = (t : Table) → HoldsTable l.table t →
    AreArguments l.all_well l.fn.found.items l.found.items (arguments t l.view (map parameter_of l.parameters) (shown_expr_list (take l.index l.exprs)))

abbrev pub decreases-judge : goal.decreases-judge
decreases-judge l = 8 * expr_size l.expr.now

abbrev pub decreases-judge_primary : goal.decreases-judge_primary
decreases-judge_primary l = 8 * primary_size l.primary.now

abbrev pub decreases-judge_ref : goal.decreases-judge_ref
decreases-judge_ref l = 8 * ref_size l.reference.now + 3

abbrev pub decreases-judge_variable : goal.decreases-judge_variable
decreases-judge_variable l = 8 * ref_size l.reference.now + 2

abbrev pub decreases-judge_limit : goal.decreases-judge_limit
decreases-judge_limit l = 8 * ref_size l.array.now + 2

abbrev pub decreases-walk_ref : goal.decreases-walk_ref
decreases-walk_ref l = 8 * ref_size l.reference.now + 1

abbrev pub decreases-walk : goal.decreases-walk
decreases-walk l = 8 * most selector_size l.selectors.now + 1

abbrev pub decreases-step : goal.decreases-step
decreases-step l = 8 * selector_size l.selector.now

abbrev pub decreases-judge_all : goal.decreases-judge_all
decreases-judge_all l = 8 * most expr_size l.exprs.now + 1

abbrev pub decreases-judge_argument : goal.decreases-judge_argument
decreases-judge_argument l = 8 * expr_size l.expr.now + 1

abbrev pub decreases-judge_each : goal.decreases-judge_each
decreases-judge_each l = 8 * most expr_size l.exprs.now + 2

abbrev pub decreases-judge_arguments : goal.decreases-judge_arguments
decreases-judge_arguments l = 8 * most expr_size l.exprs.now + 3

abbrev pub decreases-judge_first : goal.decreases-judge_first
decreases-judge_first l = 8 * selector_size l.first.now + 4

abbrev pub decreases-judge_beyond_one : goal.decreases-judge_beyond_one
decreases-judge_beyond_one l = 8 * selector_size l.selector.now

abbrev pub decreases-judge_beyond : goal.decreases-judge_beyond
decreases-judge_beyond l = 8 * most selector_size l.selectors.now + 1

abbrev pub decreases-judge_applied : goal.decreases-judge_applied
decreases-judge_applied l = 8 * most selector_size l.selectors.now + 5

abbrev pub decreases-judge_call : goal.decreases-judge_call
decreases-judge_call l = 8 * most selector_size l.selectors.now + 6
