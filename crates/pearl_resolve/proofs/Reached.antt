-- Where references lead, in memory and in the definitions.
use Rattle.std.proofs.Common.{◌≡◌, ℕ, Bool, List, [], map, Option, Some, None, option_map, unwrap_or, Result, Ok, Err, refl, subst}
use Rattle.std.specs.Result.{OnOk}
use Rattle.std.proofs.lemmas.Option.{same_Some}
use Rattle.pearl_value.specs.declared.kind.Kind.{Kind}
use Rattle.pearl_value.specs.declared.kind.Kind.TheVariants as kind
use Rattle.pearl_tree.specs.declared.name.Name.{Name}
use Rattle.pearl_names.specs.declared.sense.Form.{Form as HeldForm}
use Rattle.pearl_names.specs.declared.sense.Parameter.{Parameter as HeldParameter}
use Rattle.pearl_names.specs.declared.sense.Sense.{Sense as HeldSense}
use Rattle.pearl_names.specs.declared.sense.Sense.TheVariants as held
use Rattle.pearl_names.specs.declared.sense.Bounds.{Bounds}
use Rattle.pearl_names.specs.declared.types.FieldForm.{FieldForm}
use Rattle.pearl_names.specs.declared.types.StructForm.{StructForm}
use Rattle.pearl_names.specs.declared.types.TypeRef.TheVariants.{Basic, Struct}
use Rattle.pearl_names.specs.Forms.{pair_of, StandsFor, Component, IsComponent, MatchesComponent, component}
use Rattle.pearl_names.specs.Shapes.{Shape, OfKind, OfFields, Fields}
use Rattle.pearl_names.specs.Holding.{HoldsForm, HoldsSense, parameter_of}
use Rattle.pearl_names.specs.Tables.{Form, Parameter, Sense, Variable, Control, OwnParameter, NewType, Semaphore, Interrupt, AlphicDation, BasicDation, Task, Procedure}
use Rattle.pearl_program.specs.declared.expression.Target.{Target}
use Rattle.pearl_program.specs.declared.expression.Target.TheVariants.{Own}
use Rattle.pearl_resolve.specs.declared.walk.Walk.{Walk as HeldWalk}
use Rattle.pearl_resolve.specs.Expressions.{Walk, begun, field_of, form_walk, kind_of_shape, no_walk, own_or_param, walk_of}
use Rattle.pearl_resolve.specs.Holding.{HoldsWalk}

pub kind_stands : (forms : List StructForm) (kind : Kind) → StandsFor forms (Basic kind) (OfKind kind)
unfolding StandsFor
kind_stands forms kind = refl

pub no_field_of_kind : (forms : List StructForm) (kind : Kind) (shape : Shape) (name : Name) → StandsFor forms (Basic kind) shape → field_of shape name ≡ None
unfolding StandsFor
no_field_of_kind forms kind (OfKind of) name h = refl
no_field_of_kind forms kind (OfFields fields) name h = absurd h

-- what the bounds of a field of a STRUCT are
abbrev pub BoundsAre : List StructForm → ℕ → Name → Option (List Bounds) → Type 0
BoundsAre forms number name bounds = (fields : Fields) → StandsFor forms (Struct number) (OfFields fields) →
    option_map (map pair_of) bounds ≡ option_map (λ (of : Component). of.bounds) (component 0 0 fields name.text.items)

-- what a field of a STRUCT is
abbrev pub FieldIs : List StructForm → ℕ → Name → Option FieldForm → Type 0
FieldIs forms number name field = (fields : Fields) → StandsFor forms (Struct number) (OfFields fields) →
    MatchesComponent forms field (component 0 0 fields name.text.items)

-- a field that has the name
pub record Found (forms : List StructForm) (field : FieldForm) (bounds : List Bounds) (shape : Shape) (name : Name) : Type 0 where
  pub of : Component
  pub is : field_of shape name ≡ Some of
  pub part : IsComponent forms field of
  pub pairs : map pair_of bounds ≡ of.bounds

pub found : (forms : List StructForm) (number : ℕ) (shape : Shape) (name : Name) (field : FieldForm) (bounds : List Bounds) → StandsFor forms (Struct number) shape →
    BoundsAre forms number name (Some bounds) → FieldIs forms number name (Some field) → Found forms field bounds shape name
unfolding StandsFor
found forms number (OfKind of) name field bounds h are is = absurd h
found forms number (OfFields fields) name field bounds h are is = by (component 0 0 fields name.text.items) refl (are fields h) (is fields h)
  where
    by : (of : Option Component) → component 0 0 fields name.text.items ≡ of →
        Some (map pair_of bounds) ≡ option_map (λ (of : Component). of.bounds) of → MatchesComponent forms (Some field) of →
        Found forms field bounds (OfFields fields) name
    by None e b m = absurd m
    by (Some of) e b m = record { of = of; is = e; part = m; pairs = same_Some _ _ b }

-- what is not there leads nowhere
pub no_form : (forms : List StructForm) (walk : HeldWalk) (target : Target) (form : Option HeldForm) (of : Option Form) → form ≡ None → HoldsForm forms form of →
    HoldsWalk forms walk no_walk → HoldsWalk forms walk (form_walk target of)
no_form forms walk target form None is h w = w
no_form forms walk target form (Some of) is h w = absurd (subst (λ f. HoldsForm forms f (Some of)) is h)

-- a name by itself, as it is held in memory
pub control_walk : (forms : List StructForm) (walk : HeldWalk) (scope number : ℕ) (kind : Kind) (of : Sense) → HoldsSense forms (held.Control kind) of →
    HoldsWalk forms walk (begun (Own number) [] (OfKind kind)) → HoldsWalk forms walk (walk_of (record { sense = of; scope = scope; number = number }))
control_walk forms walk scope number kind (Control to) h w = subst (λ k. HoldsWalk forms walk (begun (Own number) [] (OfKind k))) h w
control_walk forms walk scope number kind (Variable form inv) h w = absurd h
control_walk forms walk scope number kind (OwnParameter parameter) h w = absurd h
control_walk forms walk scope number kind NewType h w = absurd h
control_walk forms walk scope number kind Semaphore h w = absurd h
control_walk forms walk scope number kind Interrupt h w = absurd h
control_walk forms walk scope number kind (AlphicDation direction) h w = absurd h
control_walk forms walk scope number kind (BasicDation direction to) h w = absurd h
control_walk forms walk scope number kind Task h w = absurd h
control_walk forms walk scope number kind (Procedure parameters result) h w = absurd h

abbrev of_parameter : ℕ → Parameter → Walk
of_parameter number parameter = begun (own_or_param parameter.ident number) [] (OfKind (unwrap_or parameter.kind (kind.Fixed 31)))

pub parameter_walk : (forms : List StructForm) (walk : HeldWalk) (scope number : ℕ) (parameter : HeldParameter) (of : Sense) → HoldsSense forms (held.Parameter parameter) of →
    HoldsWalk forms walk (of_parameter number (parameter_of parameter)) → HoldsWalk forms walk (walk_of (record { sense = of; scope = scope; number = number }))
parameter_walk forms walk scope number parameter (OwnParameter to) h w = subst (λ p. HoldsWalk forms walk (of_parameter number p)) h w
parameter_walk forms walk scope number parameter (Variable form inv) h w = absurd h
parameter_walk forms walk scope number parameter (Control to) h w = absurd h
parameter_walk forms walk scope number parameter NewType h w = absurd h
parameter_walk forms walk scope number parameter Semaphore h w = absurd h
parameter_walk forms walk scope number parameter Interrupt h w = absurd h
parameter_walk forms walk scope number parameter (AlphicDation direction) h w = absurd h
parameter_walk forms walk scope number parameter (BasicDation direction to) h w = absurd h
parameter_walk forms walk scope number parameter Task h w = absurd h
parameter_walk forms walk scope number parameter (Procedure parameters result) h w = absurd h

-- what is no variable leads nowhere
pub no_variable : (forms : List StructForm) (walk : HeldWalk) (scope number : ℕ) (sense : HeldSense) (of : Sense) →
    ((form : Option Form) (inv : Bool) → HoldsSense forms sense (Variable form inv) → ⊥) → ((kind : Kind) → HoldsSense forms sense (Control kind) → ⊥) →
    ((parameter : Parameter) → HoldsSense forms sense (OwnParameter parameter) → ⊥) → HoldsSense forms sense of →
    HoldsWalk forms walk no_walk → HoldsWalk forms walk (walk_of (record { sense = of; scope = scope; number = number }))
no_variable forms walk scope number sense (Variable form inv) a b c h w = absurd (a form inv h)
no_variable forms walk scope number sense (Control kind) a b c h w = absurd (b kind h)
no_variable forms walk scope number sense (OwnParameter parameter) a b c h w = absurd (c parameter h)
no_variable forms walk scope number sense NewType a b c h w = w
no_variable forms walk scope number sense Semaphore a b c h w = w
no_variable forms walk scope number sense Interrupt a b c h w = w
no_variable forms walk scope number sense (AlphicDation direction) a b c h w = w
no_variable forms walk scope number sense (BasicDation direction to) a b c h w = w
no_variable forms walk scope number sense Task a b c h w = w
no_variable forms walk scope number sense (Procedure parameters result) a b c h w = w

pub on_ok : {X E P Q : Type 0} (r : Result X E) → (P → Q) → OnOk r P → OnOk r Q
on_ok (Ok x) f p = f p
on_ok (Err e) f p = p

-- the kind of what is there
pub kind_reached : (forms : List StructForm) (of : Kind) (shape : Shape) → StandsFor forms (Basic of) shape → of ≡ kind_of_shape shape
unfolding StandsFor
kind_reached forms of (OfKind to) h = h
kind_reached forms of (OfFields fields) h = absurd h

pub struct_reached : (forms : List StructForm) (number : ℕ) (shape : Shape) → StandsFor forms (Struct number) shape → kind.Fixed 31 ≡ kind_of_shape shape
unfolding StandsFor
struct_reached forms number (OfKind to) h = absurd h
struct_reached forms number (OfFields fields) h = refl
