-- Where references stand, in memory and in the definitions.
use Rattle.std.proofs.Common.{◌<◌, ◌==◌, ◌&&◌, cond, ◌≡◌, ℕ, zero, suc, false, List, [], length, Option, Some, None, refl, sym, ap, ◌∙◌, subst, append-nil, arith}
use Rattle.pearl_value.specs.declared.kind.Kind.{Kind}
use Rattle.pearl_tree.specs.declared.fault.RuleFault.{RuleFault}
use Rattle.pearl_tree.specs.declared.name.Name.{Name}
use Rattle.pearl_names.specs.declared.types.TypeRef.{TypeRef}
use Rattle.pearl_names.specs.declared.types.TypeRef.TheVariants.{Basic, Struct}
use Rattle.pearl_names.specs.declared.types.StructForm.{StructForm}
use Rattle.pearl_names.specs.Shapes.{Shape, OfKind, OfFields, Fields}
use Rattle.pearl_names.specs.declared.types.FieldForm.{FieldForm}
use Rattle.pearl_names.specs.Forms.{StandsFor, Component, component, MatchesComponent}
use Rattle.pearl_check_expr.specs.declared.standing.Standing.{Standing as Reached}
use Rattle.pearl_check_expr.specs.declared.standing.Standing.TheVariants as reached
use Rattle.pearl_check_expr.specs.declared.standing.Subscripts.{Subscripts}
use Rattle.pearl_check_expr.specs.Standings.{Judged, faulty, Standing, Broken, Open, walked_on, stopped, start_at, all_fixed, all_known, element_of, element_standing, to_field, field_of, selected, value_of}
use Rattle.pearl_check_expr.specs.Answers.{StandsAt, StandsIf, IsWalked, AreSubscripts}

pub kind_stands : (forms : List StructForm) (kind : Kind) → StandsAt forms (reached.Open 0 (Basic kind)) (Open 0 (OfKind kind))
unfolding StandsFor
kind_stands forms kind = (refl, refl)

pub no_field : (forms : List StructForm) (kind : Kind) (shape : Shape) (name : Name) → StandsFor forms (Basic kind) shape → field_of shape name ≡ stopped name.place 18
unfolding StandsFor
no_field forms kind (OfKind to) name h = refl
no_field forms kind (OfFields fields) name h = absurd h

pub kind_value : (forms : List StructForm) (kind : Kind) (shape : Shape) (name : Name) → StandsFor forms (Basic kind) shape →
    value_of name (Open 0 shape) ≡ record { kind = Some kind; faults = [] }
unfolding StandsFor
kind_value forms kind (OfKind to) name h = ap (λ k. record { kind = Some k; faults = [] }) (sym h)
kind_value forms kind (OfFields fields) name h = absurd h

pub no_kind : (forms : List StructForm) (number : ℕ) (shape : Shape) (name : Name) → StandsFor forms (Struct number) shape →
    value_of name (Open 0 shape) ≡ faulty name.place 19
unfolding StandsFor
no_kind forms number (OfKind to) name h = absurd h
no_kind forms number (OfFields fields) name h = refl

pub component_of_array : (forms : List StructForm) (number : ℕ) (part : TypeRef) (from : Standing) (name component : Name) → 0 < number →
    StandsAt forms (reached.Open number part) from → selected name from component ≡ stopped name.place 17
component_of_array forms number part Broken name component more h = absurd h
component_of_array forms number part (Open zero shape) name component more h = absurd (omega (arith, more, h.0))
component_of_array forms number part (Open (suc n) shape) name component more h = refl

pub no_start : (forms : List StructForm) (standing : Option Reached) (of : Option Standing) (name : Name) → standing ≡ None → StandsIf forms standing of →
    start_at name of ≡ stopped name.place 16
no_start forms None None name is h = refl
no_start forms (Some reached) of name is h = cc
no_start forms None (Some standing) name is h = absurd h

-- subscripts that don't fit
pub no_element : (forms : List StructForm) (number : ℕ) (part : TypeRef) (from : Standing) (subscripts : Subscripts) (parts : List Judged) (name : Name) →
    (subscripts.count == number) && subscripts.fixed ≡ false → StandsAt forms (reached.Open number part) from → AreSubscripts subscripts parts →
    element_of name from parts ≡ stopped name.place 17
no_element forms number part Broken subscripts parts name not_so h are = absurd h
no_element forms number part (Open dimensions shape) subscripts parts name not_so h are =
    let e : (length parts == dimensions) && all_fixed parts ≡ false =
    (λ i. (sym are.count i == sym h.0 i) && sym are.fixed i) ∙ not_so in
    ap (λ b. cond b (walked_on (element_standing (all_known parts) shape) []) (stopped name.place 17)) e

-- a field in memory is that of the shape
pub found_field : (forms : List StructForm) (number : ℕ) (shape : Shape) (name : Name) (field : FieldForm) (found : Option FieldForm) (old : List RuleFault) →
    found ≡ Some field →
    ((fields : Fields) → StandsFor forms (Struct number) (OfFields fields) → MatchesComponent forms found (component 0 0 fields name.text.items)) →
    StandsFor forms (Struct number) shape → IsWalked forms (reached.Open field.dimensions field.part) old old (field_of shape name)
unfolding StandsFor
found_field forms number (OfKind kind) name field found old is matches h = absurd h
found_field forms number (OfFields fields) name field found old is matches h =
    by (component 0 0 fields name.text.items) (subst (λ f. MatchesComponent forms f (component 0 0 fields name.text.items)) is (matches fields h))
  where
    by : (at : Option Component) → MatchesComponent forms (Some field) at → IsWalked forms (reached.Open field.dimensions field.part) old old (to_field name at)
    by None m = absurd m
    by (Some of) m = record { stands = (m.dimensions, m.part); added = sym (append-nil old) }

pub missed_field : (forms : List StructForm) (number : ℕ) (shape : Shape) (name : Name) (found : Option FieldForm) →
    found ≡ None →
    ((fields : Fields) → StandsFor forms (Struct number) (OfFields fields) → MatchesComponent forms found (component 0 0 fields name.text.items)) →
    StandsFor forms (Struct number) shape → field_of shape name ≡ stopped name.place 18
unfolding StandsFor
missed_field forms number (OfKind kind) name found is matches h = absurd h
missed_field forms number (OfFields fields) name found is matches h =
    by (component 0 0 fields name.text.items) (subst (λ f. MatchesComponent forms f (component 0 0 fields name.text.items)) is (matches fields h))
  where
    by : (at : Option Component) → MatchesComponent forms None at → to_field name at ≡ stopped name.place 18
    by None m = refl
    by (Some of) m = absurd m
