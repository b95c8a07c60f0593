-- What a STRUCT begins with: elements of an earlier type, which one comes to by going into the first field, into the first
-- field of that, and so on. A leap keeps where so many of these steps lead, and which kinds are among the slots behind it.
use Rattle.std.specs.Prelude.{◌≡◌, ◌⊎◌, ℕ, zero, suc, ◌+◌, ◌*◌, ◌≤◌, List, [], ◌∷◌, ◌++◌, length, Option, Some, None, option_map, slice_get}
use Rattle.std.specs.Option.{option_and_then}
use Rattle.arrayvec.specs.ArrayVec.{ArrayVec}
use Rattle.pearl_value.specs.declared.kind.Kind.{Kind}
use Rattle.pearl_names.specs.declared.kinds.Kinds.{Kinds}
use Rattle.pearl_names.specs.declared.types.Begun.{Begun}
use Rattle.pearl_names.specs.declared.types.FieldForm.{FieldForm}
use Rattle.pearl_names.specs.declared.types.Leap.{Leap}
use Rattle.pearl_names.specs.declared.types.StructForm.{StructForm}
use Rattle.pearl_names.specs.declared.types.TypeRef.{TypeRef}
use Rattle.pearl_names.specs.declared.types.TypeRef.TheVariants.{Basic, Struct}
use Rattle.pearl_names.specs.Counts.{cut}
use Rattle.pearl_names.specs.Kinds.{joined_kinds, kinds_among}
use Rattle.pearl_names.specs.Layout.{elements, leaves_of}
use Rattle.pearl_names.specs.Runs.{field_slots}
use Rattle.pearl_names.specs.Shapes.{Shape, OfKind, OfFields, Fields, NoField, MoreField}

-- one step: the first field's type, how many elements of it each element has, and the slots behind those of so many
abbrev pub first_shape : Shape → Shape
first_shape (OfKind kind) = OfKind kind
first_shape (OfFields NoField) = OfFields NoField
first_shape (OfFields (MoreField name bounds shape rest)) = shape

abbrev pub first_times : Shape → ℕ
first_times (OfKind kind) = 1
first_times (OfFields NoField) = 1
first_times (OfFields (MoreField name bounds shape rest)) = elements bounds

abbrev pub first_behind : ℕ → Shape → List Kind
first_behind many (OfKind kind) = []
first_behind many (OfFields NoField) = []
first_behind many (OfFields (MoreField name bounds shape rest)) = field_slots many rest

-- so many steps
abbrev pub inner_shape : ℕ → Shape → Shape
inner_shape zero shape = shape
inner_shape (suc n) shape = inner_shape n (first_shape shape)

abbrev pub times : ℕ → Shape → ℕ
times zero shape = 1
times (suc n) shape = first_times shape * times n (first_shape shape)

abbrev pub behind_slots : ℕ → ℕ → Shape → List Kind
behind_slots zero many shape = []
behind_slots (suc n) many shape = behind_slots n (many * first_times shape) (first_shape shape) ++ first_behind many shape

-- the leap that is kept with a STRUCT
abbrev pub leap_at : List StructForm → ℕ → Option Leap
leap_at forms number = option_and_then (λ form. form.leap) (slice_get forms number)

abbrev pub begun_with : ℕ → Leap → Begun
begun_with number leap = record { number = number; leap = leap }

abbrev pub begun : List StructForm → TypeRef → Option Begun
begun forms (Basic kind) = None
begun forms (Struct number) = option_map (begun_with number) (leap_at forms number)

abbrev pub one_step : FieldForm → Kinds → Leap
one_step field behind = record { to = record { part = field.part; count = field.elements }; behind = behind; steps = 1 }

-- one leap, and then another
abbrev pub joined_leaps : Leap → Leap → Leap
joined_leaps a b = record {
  to = record { part = b.to.part; count = cut (a.to.count * b.to.count) };
  behind = joined_kinds b.behind a.behind;
  steps = a.steps + b.steps;
}

-- two leaps from a type on
pub record TwoLeaps (forms : List StructForm) (part : TypeRef) : Type 0 where
  pub near : Begun
  pub next : Begun
  pub near_is : begun forms part ≡ Some near
  pub next_is : begun forms near.leap.to.part ≡ Some next

abbrev pub two_steps : {forms : List StructForm} {part : TypeRef} → TwoLeaps forms part → ℕ
two_steps two = two.near.leap.steps + two.next.leap.steps

-- a step and two leaps
pub record IsFar (forms : List StructForm) (one leap : Leap) : Type 0 where
  pub two : TwoLeaps forms one.to.part
  pub is : leap ≡ joined_leaps one (joined_leaps two.near.leap two.next.leap)

-- a step, alone or with two leaps behind it
abbrev pub IsLeap : List StructForm → Leap → Leap → Type 0
IsLeap forms one leap = (leap ≡ one) ⊎ IsFar forms one leap

-- the leap that is kept with these fields begins in the first of them, which has leaves
abbrev pub LeapStands : List StructForm → Option Leap → List (ArrayVec ℕ × FieldForm) → Fields → Type 0
LeapStands forms None entries fields = Unit {0}
LeapStands forms (Some leap) (entry ∷ entries) (MoreField name bounds shape rest) =
    IsLeap forms (one_step entry.1 (kinds_among (field_slots 1 rest))) leap × (1 ≤ length (leaves_of [] [] shape))
LeapStands forms (Some leap) entries fields = ⊥
