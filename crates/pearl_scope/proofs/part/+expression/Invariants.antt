use Rattle.std.proofs.Common.{◌≡◌, ◌++◌, take}
use Rattle.std.specs.List.{flat_map}
use Rattle.pearl_tree.specs.ShownExpressions.{shown_expr}
use Rattle.pearl_scope.specs.Parts.{expr_parts}
use Rattle.pearl_scope.specs.PartLists.{parts_in, selector_list_parts}
use Rattle.pearl_scope.proofs.part.«+expression».Given as goal

abbrev pub invariant-add_exprs-loop-expr : goal.invariant-add_exprs-loop-expr
invariant-add_exprs-loop-expr l = parts_in l.parts.items ≡ parts_in l.fn.parts.items ++ flat_map (λ expr. expr_parts l.view (shown_expr expr)) (take l.expr-index l.exprs)

abbrev pub invariant-add_selectors-loop-selector : goal.invariant-add_selectors-loop-selector
invariant-add_selectors-loop-selector l = parts_in l.parts.items ≡ parts_in l.fn.parts.items ++ selector_list_parts l.view (take l.selector-index l.selectors)
