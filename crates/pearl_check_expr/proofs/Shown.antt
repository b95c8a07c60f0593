-- What nodes show whose lists are fields.
use Rattle.std.proofs.Common.{◌≡◌, ℕ, Option, Box, Global, refl, ap, ◌∙◌}
use mathlib.Core.Former.{Count}
use Rattle.pearl_tree.specs.declared.parts.Parts.{Parts}
use Rattle.pearl_tree.specs.declared.name.Number.{Number}
use Rattle.pearl_tree.specs.declared.expression.Side.{Side}
use Rattle.pearl_tree.specs.declared.expression.Expr.{Expr}
use Rattle.pearl_tree.specs.declared.expression.Primary.{Primary}
use Rattle.pearl_tree.specs.declared.expression.Primary as primary
use Rattle.pearl_tree.specs.declared.expression.Selector.{Selector, Subscripts, Subscripts', Row_of-Expr, end_of-Expr, more_of-Expr, items-the_row-Expr, items_hidden-the_row-Expr-1}
use Rattle.pearl_tree.specs.declared.expression.Ref.{Ref, Row_of-Selector, end_of-Selector, more_of-Selector, items-the_row-Selector, items_hidden-the_row-Selector-0}
use Rattle.pearl_tree.specs.ShownExpressions.{OfRef, OfLimit, OfSubscripts, MoreExprs, MoreSelectors, shown_expr, shown_exprs, shown_expr_list, shown_primary, shown_selector, shown_selectors, shown_selector_list}

exprs_shown : (n : _) (row : Row_of-Expr n) → shown_exprs row ≡ shown_expr_list (items-the_row-Expr n row)
exprs_shown _ end_of-Expr = refl
exprs_shown _ (more_of-Expr expr rest) = ap (λ t. MoreExprs (shown_expr expr) t) (exprs_shown _ rest)

selectors_shown : (n : _) (row : Row_of-Selector n) → shown_selectors row ≡ shown_selector_list (items-the_row-Selector n row)
selectors_shown _ end_of-Selector = refl
selectors_shown _ (more_of-Selector selector rest) = ap (λ t. MoreSelectors (shown_selector selector) t) (selectors_shown _ rest)

abbrev subscripts_of : Selector → (n : Count) × Row_of-Expr n
subscripts_of (Subscripts' _ row _) = (_, row)
subscripts_of _ = (_, end_of-Expr)

pub subscripts_shown : (subscripts : Parts Expr) (place : ℕ) →
    shown_selector (Subscripts subscripts place) ≡ OfSubscripts (shown_expr_list subscripts.items.items) place
subscripts_shown subscripts place =
    let row = subscripts_of (Subscripts subscripts place) in
    ap (λ t. OfSubscripts t place) (exprs_shown row.0 row.1 ∙ ap shown_expr_list (items_hidden-the_row-Expr-1 subscripts.items))

abbrev selectors_of : Primary → (n : Count) × Row_of-Selector n
selectors_of (primary.Ref' _ _ row _) = (_, row)
selectors_of (primary.Limit' _ _ _ _ _ row _ _) = (_, row)
selectors_of _ = (_, end_of-Selector)

pub ref_shown : (reference : Ref) →
    shown_primary (primary.Ref reference) ≡ OfRef reference.name (shown_selector_list reference.selectors.items.items) reference.place
ref_shown reference =
    let row = selectors_of (primary.Ref reference) in
    ap (λ t. OfRef reference.name t reference.place) (selectors_shown row.0 row.1 ∙ ap shown_selector_list (items_hidden-the_row-Selector-0 reference.selectors.items))

pub limit_shown : (dimension : Option Number) (side : Side) (array : Box Ref Global) (place : ℕ) →
    shown_primary (primary.Limit dimension side array place) ≡
    OfLimit dimension side array.value.name (shown_selector_list array.value.selectors.items.items) array.value.place place
limit_shown dimension side array place =
    let row = selectors_of (primary.Limit dimension side array place) in
    ap (λ t. OfLimit dimension side array.value.name t array.value.place place)
    (selectors_shown row.0 row.1 ∙ ap shown_selector_list (items_hidden-the_row-Selector-0 array.value.selectors.items))
