-- Lists of parts, and the parts of nodes whose lists are fields.
use Rattle.std.proofs.Common.{◌≡◌, ℕ, List, [], ◌∷◌, ◌++◌, Option, Box, Global, refl, sym, ap, ◌∙◌, map, append_assoc}
use mathlib.Core.Former.{Count}
use Rattle.std.proofs.lemmas.List.{map-append}
use Rattle.std.specs.List.{flat_map}
use Rattle.pearl_tree.specs.declared.parts.Parts.{Parts}
use Rattle.pearl_tree.specs.declared.name.Number.{Number}
use Rattle.pearl_tree.specs.declared.typing.Field.{Field}
use Rattle.pearl_tree.specs.declared.typing.Typing.{Struct as struct_typing}
use Rattle.pearl_tree.specs.declared.expression.Side.{Side}
use Rattle.pearl_tree.specs.declared.expression.Expr.{Expr}
use Rattle.pearl_tree.specs.declared.expression.Primary.{Primary}
use Rattle.pearl_tree.specs.declared.expression.Primary as primary
use Rattle.pearl_tree.specs.declared.expression.Selector.{Selector, Subscripts, Subscripts', Row_of-Expr, end_of-Expr, more_of-Expr, items-the_row-Expr, items_hidden-the_row-Expr-1}
use Rattle.pearl_tree.specs.declared.expression.Ref.{Ref, Row_of-Selector, end_of-Selector, more_of-Selector, items-the_row-Selector, items_hidden-the_row-Selector-0}
use Rattle.pearl_tree.specs.ShownExpressions.{shown_expr, shown_primary, shown_selectors, shown_selector, shown_exprs, shown_selector_list, shown_ref}
use Rattle.pearl_tree.specs.ShownDeclarations.{shown_typing}
use Rattle.pearl_names.specs.declared.scope.View.{View}
use Rattle.pearl_scope.specs.declared.part.Part.{Part as CodePart}
use Rattle.pearl_scope.specs.Parts.{Used, Bounds, Struct, expr_parts, primary_parts, selectors_parts, selector_parts, exprs_parts, ref_parts, typing_parts, fields_parts}
use Rattle.pearl_names.specs.Forming.{fields_shown}
use Rattle.pearl_names.proofs.Offered.{struct_shown}
use Rattle.pearl_scope.specs.PartLists.{shown_part, parts_in, selector_list_parts, field_list_parts}

pub parts_in-nil : parts_in [] ≡ []
unfolding parts_in
parts_in-nil = refl

pub parts_in-append : (a b : List CodePart) → parts_in (a ++ b) ≡ parts_in a ++ parts_in b
unfolding parts_in
parts_in-append a b = map-append _ a b

pub parts_in-cons : (a : CodePart) (b : List CodePart) → parts_in (a ∷ b) ≡ shown_part a ∷ parts_in b
unfolding parts_in
parts_in-cons a b = refl

pub parts_in-push : (a b : List CodePart) (x : CodePart) → b ≡ a ++ x ∷ [] → parts_in b ≡ parts_in a ++ shown_part x ∷ []
unfolding parts_in
parts_in-push a b x is = ap parts_in is ∙ map-append _ a (x ∷ [])

pub ruleset part_steps = (parts_in-nil, parts_in-append, parts_in-cons)

exprs_each : (view : View) (n : _) (row : Row_of-Expr n) →
    exprs_parts view (shown_exprs row) ≡ flat_map (expr_parts view) (map shown_expr (items-the_row-Expr n row))
exprs_each view _ end_of-Expr = refl
exprs_each view _ (more_of-Expr expr rest) = ap (λ t. expr_parts view (shown_expr expr) ++ t) (exprs_each view _ rest)

abbrev subscripts_of : Selector → (n : Count) × Row_of-Expr n
subscripts_of (Subscripts' _ row _) = (_, row)
subscripts_of _ = (_, end_of-Expr)

pub subscripts_shown : (view : View) (exprs : Parts Expr) (place : ℕ) →
    selector_parts view (shown_selector (Subscripts exprs place)) ≡ flat_map (expr_parts view) (map shown_expr exprs.items.items)
subscripts_shown view exprs place =
    let row = subscripts_of (Subscripts exprs place) in
    exprs_each view row.0 row.1 ∙ ap (λ xs. flat_map (expr_parts view) (map shown_expr xs)) (items_hidden-the_row-Expr-1 exprs.items)

selectors_each : (view : View) (n : _) (row : Row_of-Selector n) →
    selectors_parts view (shown_selectors row) ≡ selector_list_parts view (items-the_row-Selector n row)
selectors_each view _ end_of-Selector = refl
selectors_each view _ (more_of-Selector selector rest) = ap (λ t. selector_parts view (shown_selector selector) ++ t) (selectors_each view _ rest)

pub selector_list_each : (view : View) (xs : List Selector) → selectors_parts view (shown_selector_list xs) ≡ selector_list_parts view xs
selector_list_each view [] = refl
selector_list_each view (selector ∷ rest) = ap (λ t. selector_parts view (shown_selector selector) ++ t) (selector_list_each view rest)

abbrev selectors_of : Primary → (n : Count) × Row_of-Selector n
selectors_of (primary.Ref' _ _ row _) = (_, row)
selectors_of (primary.Limit' _ _ _ _ _ row _ _) = (_, row)
selectors_of _ = (_, end_of-Selector)

same_list : (view : View) (n : _) (row : Row_of-Selector n) (xs : List Selector) → items-the_row-Selector n row ≡ xs →
    selectors_parts view (shown_selectors row) ≡ selectors_parts view (shown_selector_list xs)
same_list view n row xs same = selectors_each view n row ∙ ap (selector_list_parts view) same ∙ sym (selector_list_each view xs)

pub ref_shown : (view : View) (reference : Ref) → primary_parts view (shown_primary (primary.Ref reference)) ≡ ref_parts view (shown_ref reference)
ref_shown view reference =
    let row = selectors_of (primary.Ref reference) in
    ap (λ t. Used view reference.name ∷ t) (same_list view row.0 row.1 _ (items_hidden-the_row-Selector-0 reference.selectors.items))

pub limit_shown : (view : View) (dimension : Option Number) (side : Side) (array : Box Ref Global) (place : ℕ) →
    primary_parts view (shown_primary (primary.Limit dimension side array place)) ≡ ref_parts view (shown_ref array.value)
limit_shown view dimension side array place =
    let row = selectors_of (primary.Limit dimension side array place) in
    ap (λ t. Used view array.value.name ∷ t) (same_list view row.0 row.1 _ (items_hidden-the_row-Selector-0 array.value.selectors.items))

field_list_each : (scope types : ℕ) (xs : List Field) → fields_parts scope types (fields_shown xs) ≡ field_list_parts scope types xs
field_list_each scope types [] = refl
field_list_each scope types (field ∷ rest) =
    ap (λ t. map Bounds field.bounds.items.items ++ (typing_parts scope types (shown_typing field.typing) ++ t)) (field_list_each scope types rest)
    ∙ sym (append_assoc (map Bounds field.bounds.items.items) (typing_parts scope types (shown_typing field.typing)) _)

pub struct_parts : (scope types : ℕ) (fields : Parts Field) (place : ℕ) →
    typing_parts scope types (shown_typing (struct_typing fields place)) ≡
    Struct (fields_shown fields.items.items) ∷ field_list_parts scope types fields.items.items
struct_parts scope types fields place =
    ap (typing_parts scope types) (struct_shown fields place) ∙ ap (λ t. Struct (fields_shown fields.items.items) ∷ t) (field_list_each scope types fields.items.items)
