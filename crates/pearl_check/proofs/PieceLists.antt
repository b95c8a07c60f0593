-- Lists of pieces, and the pieces of nodes whose lists are fields.
use Rattle.std.proofs.Common.{◌≡◌, ℕ, List, [], ◌∷◌, ◌++◌, Option, Box, Global, refl, sym, ap, ◌∙◌, map, length}
use mathlib.Core.Former.{Count}
use Rattle.std.proofs.lemmas.List.{map-append, length-map}
use Rattle.std.specs.List.{flat_map}
use Rattle.pearl_tree.specs.declared.parts.Parts.{Parts}
use Rattle.pearl_tree.specs.declared.name.Number.{Number}
use Rattle.pearl_tree.specs.declared.expression.Side.{Side}
use Rattle.pearl_tree.specs.declared.expression.Expr.{Expr}
use Rattle.pearl_tree.specs.declared.expression.Primary.{Primary}
use Rattle.pearl_tree.specs.declared.expression.Primary as primary
use Rattle.pearl_tree.specs.declared.expression.Selector.{Selector, Subscripts, Subscripts', Row_of-Expr, end_of-Expr, more_of-Expr, items-the_row-Expr, items_hidden-the_row-Expr-1}
use Rattle.pearl_tree.specs.declared.expression.Ref.{Ref, Row_of-Selector, end_of-Selector, more_of-Selector, items-the_row-Selector, items_hidden-the_row-Selector-0}
use Rattle.pearl_tree.specs.ShownExpressions.{shown_expr, shown_primary, shown_selectors, shown_selector, shown_exprs, shown_expr_list, shown_selector_list, shown_ref}
use Rattle.pearl_check.specs.declared.pieces.Piece.{Piece as CodePiece}
use Rattle.pearl_check.specs.Pieces.{Reference, Other, expr_pieces, primary_pieces, selectors_pieces, selector_pieces, exprs_pieces}
use Rattle.pearl_check.specs.PieceLists.{shown_piece, pieces_in, selector_list_pieces, ref_pieces, limit_pieces}

pub pieces_in-nil : pieces_in [] ≡ []
unfolding pieces_in
pieces_in-nil = refl

pub pieces_in-append : (a b : List CodePiece) → pieces_in (a ++ b) ≡ pieces_in a ++ pieces_in b
unfolding pieces_in
pieces_in-append a b = map-append _ a b

pub pieces_in-cons : (a : CodePiece) (b : List CodePiece) → pieces_in (a ∷ b) ≡ shown_piece a ∷ pieces_in b
unfolding pieces_in
pieces_in-cons a b = refl

pub ruleset piece_steps = (pieces_in-nil, pieces_in-append, pieces_in-cons)

exprs_each : (n : _) (row : Row_of-Expr n) →
    exprs_pieces (shown_exprs row) ≡ flat_map expr_pieces (map shown_expr (items-the_row-Expr n row))
exprs_each _ end_of-Expr = refl
exprs_each _ (more_of-Expr expr rest) = ap (λ t. expr_pieces (shown_expr expr) ++ t) (exprs_each _ rest)

pub arguments_each : (exprs : List Expr) → exprs_pieces (shown_expr_list exprs) ≡ flat_map expr_pieces (map shown_expr exprs)
arguments_each [] = refl
arguments_each (expr ∷ rest) = ap (λ t. expr_pieces (shown_expr expr) ++ t) (arguments_each rest)

abbrev subscripts_of : Selector → (n : Count) × Row_of-Expr n
subscripts_of (Subscripts' _ row _) = (_, row)
subscripts_of _ = (_, end_of-Expr)

pub subscripts_shown : (exprs : Parts Expr) (place : ℕ) →
    selector_pieces (shown_selector (Subscripts exprs place)) ≡ flat_map expr_pieces (map shown_expr exprs.items.items)
subscripts_shown exprs place =
    let row = subscripts_of (Subscripts exprs place) in
    exprs_each row.0 row.1 ∙ ap (λ xs. flat_map expr_pieces (map shown_expr xs)) (items_hidden-the_row-Expr-1 exprs.items)

selectors_each : (n : _) (row : Row_of-Selector n) →
    selectors_pieces (shown_selectors row) ≡ selector_list_pieces (items-the_row-Selector n row)
selectors_each _ end_of-Selector = refl
selectors_each _ (more_of-Selector selector rest) = ap (λ t. selector_pieces (shown_selector selector) ++ t) (selectors_each _ rest)

pub selector_list_each : (xs : List Selector) → selectors_pieces (shown_selector_list xs) ≡ selector_list_pieces xs
selector_list_each [] = refl
selector_list_each (selector ∷ rest) = ap (λ t. selector_pieces (shown_selector selector) ++ t) (selector_list_each rest)

abbrev selectors_of : Primary → (n : Count) × Row_of-Selector n
selectors_of (primary.Ref' _ _ row _) = (_, row)
selectors_of (primary.Limit' _ _ _ _ _ row _ _) = (_, row)
selectors_of _ = (_, end_of-Selector)

same_list : (n : _) (row : Row_of-Selector n) (xs : List Selector) → items-the_row-Selector n row ≡ xs →
    selectors_pieces (shown_selectors row) ≡ selectors_pieces (shown_selector_list xs)
same_list n row xs same = selectors_each n row ∙ ap selector_list_pieces same ∙ sym (selector_list_each xs)

pub ref_shown : (reference : Ref) → primary_pieces (shown_primary (primary.Ref reference)) ≡ ref_pieces (shown_ref reference)
ref_shown reference =
    let row = selectors_of (primary.Ref reference) in
    ap (λ t. Reference reference.name ∷ t) (same_list row.0 row.1 _ (items_hidden-the_row-Selector-0 reference.selectors.items))

pub limit_shown : (dimension : Option Number) (side : Side) (array : Box Ref Global) (place : ℕ) →
    primary_pieces (shown_primary (primary.Limit dimension side array place)) ≡ limit_pieces (shown_ref array.value)
limit_shown dimension side array place =
    let row = selectors_of (primary.Limit dimension side array place) in
    ap (λ t. Other ∷ Other ∷ t) (same_list row.0 row.1 _ (items_hidden-the_row-Selector-0 array.value.selectors.items))

pub pieces_in-length : (pieces : List CodePiece) → length (pieces_in pieces) ≡ length pieces
unfolding pieces_in
pieces_in-length pieces = length-map pieces shown_piece
