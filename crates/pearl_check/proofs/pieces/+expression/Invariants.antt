use Rattle.std.proofs.Common.{◌≡◌, ◌++◌, take}
use Rattle.std.specs.List.{flat_map}
use Rattle.pearl_tree.specs.ShownExpressions.{shown_expr}
use Rattle.pearl_check.specs.Pieces.{expr_pieces}
use Rattle.pearl_check.specs.PieceLists.{pieces_in, selector_list_pieces}
use Rattle.pearl_check.proofs.pieces.«+expression».Given as goal

abbrev pub invariant-add_exprs-loop-expr : goal.invariant-add_exprs-loop-expr
invariant-add_exprs-loop-expr l = pieces_in l.pieces.items ≡ pieces_in l.fn.pieces.items ++ flat_map (λ expr. expr_pieces (shown_expr expr)) (take l.expr-index l.exprs)

abbrev pub invariant-add_selectors-loop-selector : goal.invariant-add_selectors-loop-selector
invariant-add_selectors-loop-selector l = pieces_in l.pieces.items ≡ pieces_in l.fn.pieces.items ++ selector_list_pieces (take l.selector-index l.selectors)
