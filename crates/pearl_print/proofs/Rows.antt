-- The tokens of nodes with lists, told by the lists that their fields show.
use Rattle.std.proofs.Common.{◌≡◌, ℕ, ◌++◌, Option, refl, ap, ◌∙◌, Box, Global}
use mathlib.Core.Former.{Count}
use Rattle.std.specs.List.{flat_map}
use Rattle.pearl_tree.specs.declared.parts.Parts.{Parts}
use Rattle.pearl_tree.specs.declared.name.Number.{Number}
use Rattle.pearl_tree.specs.declared.typing.Field.{Field}
use Rattle.pearl_tree.specs.declared.typing.Typing.{Typing, Struct, Struct', Row_of-Field, end_of-Field, more_of-Field, items-the_row-Field, items_hidden-the_row-Field-0}
use Rattle.pearl_tree.specs.declared.expression.Side.{Side}
use Rattle.pearl_tree.specs.declared.expression.Expr.{Expr}
use Rattle.pearl_tree.specs.declared.expression.Primary.{Primary}
use Rattle.pearl_tree.specs.declared.expression.Primary as primary
use Rattle.pearl_tree.specs.declared.expression.Selector.{Selector, Subscripts, Subscripts', Row_of-Expr, end_of-Expr, more_of-Expr, items-the_row-Expr, items_hidden-the_row-Expr-1}
use Rattle.pearl_tree.specs.declared.expression.Ref.{Ref, Row_of-Selector, end_of-Selector, more_of-Selector, items-the_row-Selector, items_hidden-the_row-Selector-0}
use Rattle.pearl_tree.specs.Expressions.{side_word}
use Rattle.pearl_tree.specs.declared.symbol.TheConstants as s
use Rattle.pearl_tree.specs.declared.word_code.TheConstants as w
use Rattle.pearl_print.specs.Lists.{word, symbol, name_tokens, number_tokens, after_commas, listed, bracketed, maybe}
use Rattle.pearl_print.specs.Types.{names_tokens, bounds_tokens, typing_tokens, fields_tokens, more_fields_tokens, field_tokens, struct_tokens}
use Rattle.pearl_print.specs.Expressions.{expr_tokens, primary_tokens, selectors_tokens, selector_tokens, subscripts_tokens, more_subscripts_tokens, ref_tokens, limit_tokens}

more_fields : (n : _) (row : Row_of-Field n) → more_fields_tokens row ≡ after_commas field_tokens (items-the_row-Field n row)
more_fields _ end_of-Field = refl
more_fields _ (more_of-Field names bounds typing place rest) =
    ap (λ t. (symbol s.COMMA ++ names_tokens names ++ bounds_tokens bounds.items.items ++ typing_tokens typing) ++ t) (more_fields _ rest)

fields_listed : (n : _) (row : Row_of-Field n) → fields_tokens row ≡ listed field_tokens (items-the_row-Field n row)
fields_listed _ end_of-Field = refl
fields_listed _ (more_of-Field names bounds typing place rest) =
    ap (λ t. (names_tokens names ++ bounds_tokens bounds.items.items ++ typing_tokens typing) ++ t) (more_fields _ rest)

abbrev fields_of : Typing → (n : Count) × Row_of-Field n
fields_of (Struct' _ row _) = (_, row)
fields_of _ = (_, end_of-Field)

-- STRUCT "[" field { "," field } "]"
pub struct_shown : (fields : Parts Field) (place : ℕ) → typing_tokens (Struct fields place) ≡ struct_tokens fields.items.items
struct_shown fields place =
    let row = fields_of (Struct fields place) in
    ap (λ t. word w.STRUCT ++ symbol s.LEFT_SQUARE ++ t ++ symbol s.RIGHT_SQUARE)
    (fields_listed row.0 row.1 ∙ ap (λ xs. listed field_tokens xs) (items_hidden-the_row-Field-0 fields.items))

more_subscripts : (n : _) (row : Row_of-Expr n) → more_subscripts_tokens row ≡ after_commas expr_tokens (items-the_row-Expr n row)
more_subscripts _ end_of-Expr = refl
more_subscripts _ (more_of-Expr expr rest) = ap (λ t. (symbol s.COMMA ++ expr_tokens expr) ++ t) (more_subscripts _ rest)

subscripts_listed : (n : _) (row : Row_of-Expr n) → subscripts_tokens row ≡ listed expr_tokens (items-the_row-Expr n row)
subscripts_listed _ end_of-Expr = refl
subscripts_listed _ (more_of-Expr expr rest) = ap (λ t. expr_tokens expr ++ t) (more_subscripts _ rest)

abbrev subscripts_of : Selector → (n : Count) × Row_of-Expr n
subscripts_of (Subscripts' _ row _) = (_, row)
subscripts_of _ = (_, end_of-Expr)

-- "(" expr { "," expr } ")"
pub subscripts_shown : (exprs : Parts Expr) (place : ℕ) → selector_tokens (Subscripts exprs place) ≡ bracketed expr_tokens exprs.items.items
subscripts_shown exprs place =
    let row = subscripts_of (Subscripts exprs place) in
    ap (λ t. symbol s.LEFT_ROUND ++ t ++ symbol s.RIGHT_ROUND)
    (subscripts_listed row.0 row.1 ∙ ap (λ xs. listed expr_tokens xs) (items_hidden-the_row-Expr-1 exprs.items))

selectors_each : (n : _) (row : Row_of-Selector n) → selectors_tokens row ≡ flat_map selector_tokens (items-the_row-Selector n row)
selectors_each _ end_of-Selector = refl
selectors_each _ (more_of-Selector selector rest) = ap (λ t. selector_tokens selector ++ t) (selectors_each _ rest)

abbrev selectors_of : Primary → (n : Count) × Row_of-Selector n
selectors_of (primary.Ref' _ _ row _) = (_, row)
selectors_of (primary.Limit' _ _ _ _ _ row _ _) = (_, row)
selectors_of _ = (_, end_of-Selector)

-- ref
pub ref_shown : (reference : Ref) → primary_tokens (primary.Ref reference) ≡ ref_tokens reference
ref_shown reference =
    let row = selectors_of (primary.Ref reference) in
    ap (λ t. name_tokens reference.name ++ t)
    (selectors_each row.0 row.1 ∙ ap (λ xs. flat_map selector_tokens xs) (items_hidden-the_row-Selector-0 reference.selectors.items))

-- [ number ] ( LWB | UPB ) ref
pub limit_shown : (dimension : Option Number) (side : Side) (array : Box Ref Global) (place : ℕ) → primary_tokens (primary.Limit dimension side array place) ≡ limit_tokens dimension side array.value
limit_shown dimension side array place =
    let row = selectors_of (primary.Limit dimension side array place) in
    ap (λ t. maybe number_tokens dimension ++ word (side_word side) ++ (name_tokens array.value.name ++ t))
    (selectors_each row.0 row.1 ∙ ap (λ xs. flat_map selector_tokens xs) (items_hidden-the_row-Selector-0 array.value.selectors.items))
