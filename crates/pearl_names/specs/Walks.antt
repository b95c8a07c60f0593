-- Walks over the slots of a variable, run by run.
use Rattle.std.specs.Prelude.{◌≡◌, ℕ, ◌+◌, ◌*◌, ◌≤◌, ◌⊎◌, ℤ, List, [], ◌∷◌, ◌++◌, length, replicate, Option, Some, None, option_map}
use Rattle.std.specs.List.{All, flat_map}
use Rattle.pearl_value.specs.declared.kind.Kind.{Kind}
use Rattle.pearl_names.specs.declared.kinds.Kinds.{Kinds}
use Rattle.pearl_names.specs.declared.slots.Run.{Run}
use Rattle.pearl_names.specs.declared.slots.Slots.{Slots}
use Rattle.pearl_names.specs.declared.slots.Frame.{Frame}
use Rattle.pearl_names.specs.declared.slots.Left.{Left}
use Rattle.pearl_names.specs.declared.slots.Left.TheVariants.{FieldsFrom, Behind}
use Rattle.pearl_names.specs.declared.slots.NextField.{NextField}
use Rattle.pearl_names.specs.declared.slots.Way.{Way}
use Rattle.pearl_names.specs.declared.types.Leap.{Leap}
use Rattle.pearl_names.specs.declared.types.StructForm.{StructForm}
use Rattle.pearl_names.specs.declared.types.TypeRef.{TypeRef}
use Rattle.pearl_names.specs.declared.types.TypeRef.TheVariants.{Struct}
use Rattle.pearl_names.specs.Counts.{cut}
use Rattle.pearl_names.specs.Forms.{StandsFor, leaf_count}
use Rattle.pearl_names.specs.Kinds.{no_kinds, one_kind, kinds_among}
use Rattle.pearl_names.specs.Layout.{elements, leaves_of_fields}
use Rattle.pearl_names.specs.Leaps.{behind_slots, leap_at}
use Rattle.pearl_names.specs.Runs.{shape_slots, field_slots, AreFew, AreFewIn, drop_fields}
use Rattle.pearl_names.specs.Shapes.{Shape, OfFields, Fields}

abbrev pub run_slots : Run → List Kind
run_slots run = replicate run.count run.kind

-- so many elements of a type have these slots
pub record HasSlots (forms : List StructForm) (part : TypeRef) (count : ℕ) (slots : List Kind) : Type 0 where
  pub shape : Shape
  pub many : ℕ
  pub stands : StandsFor forms part shape
  pub counted : count ≡ cut many
  pub some : 1 ≤ many
  pub few : AreFew many shape
  pub is : slots ≡ shape_slots many shape

-- what is left of so many elements of a STRUCT with these fields
abbrev pub left_slots : Left → ℕ → Fields → List Kind
left_slots (FieldsFrom next) many fields = field_slots many (drop_fields next fields)
left_slots (Behind steps) many fields = behind_slots steps many (OfFields fields)

abbrev pub AreLeftFew : Left → ℕ → Fields → Type 0
AreLeftFew (FieldsFrom next) many fields = AreFewIn many (drop_fields next fields)
AreLeftFew (Behind steps) many fields = AreFewIn many fields

-- what is behind a leap is so behind the one that is kept
abbrev pub IsKept : Option Leap → Left → Type 0
IsKept leap (FieldsFrom next) = Unit {0}
IsKept leap (Behind steps) = option_map (λ (l : Leap). l.steps) leap ≡ Some steps

-- these slots are left of a STRUCT
pub record HasLeft (forms : List StructForm) (frame : Frame) (slots : List Kind) : Type 0 where
  pub fields : Fields
  pub many : ℕ
  pub stands : StandsFor forms (Struct frame.number) (OfFields fields)
  pub counted : frame.count ≡ cut many
  pub some : 1 ≤ many
  pub few : AreLeftFew frame.left many fields
  pub kept : IsKept (leap_at forms frame.number) frame.left
  pub is : slots ≡ left_slots frame.left many fields

-- these slots are left of all STRUCTs that a walk is within, the innermost last
abbrev pub AllLeft : List StructForm → List Frame → List Kind → Type 0
AllLeft forms [] slots = slots ≡ []
AllLeft forms (frame ∷ inner) slots =
    (first : List Kind) × (own : List Kind) × AllLeft forms inner first × HasLeft forms frame own × (slots ≡ first ++ own)

-- the next run is the first of these slots, and the others are left
abbrev pub GoesOn : List StructForm → Option Run → List Frame → List Kind → Type 0
GoesOn forms None frames slots = (slots ≡ []) × AllLeft forms frames []
GoesOn forms (Some run) frames slots =
    (rest : List Kind) × AllLeft forms frames rest × (1 ≤ run.count) × (slots ≡ run_slots run ++ rest)

abbrev pub kinds_of_next : Option Run → Kinds
kinds_of_next None = no_kinds
kinds_of_next (Some run) = one_kind run.kind

-- the first field with leaves, of the fields from one on
pub record IsNext (forms : List StructForm) (next : NextField) (fields : Fields) (from : ℕ) : Type 0 where
  pub bounds : List (ℤ × ℤ)
  pub shape : Shape
  pub stands : StandsFor forms next.field.part shape
  pub count : next.field.elements ≡ cut (elements bounds)
  pub leaf : 1 ≤ leaf_count shape
  pub few : (n : ℕ) → AreFewIn n (drop_fields from fields) → AreFew (n * elements bounds) shape × AreFewIn n (drop_fields next.after fields)
  pub slots : (n : ℕ) → field_slots n (drop_fields from fields) ≡ shape_slots (n * elements bounds) shape ++ field_slots n (drop_fields next.after fields)

abbrev pub FindsNext : List StructForm → Option NextField → Fields → ℕ → Type 0
FindsNext forms None fields from = length (leaves_of_fields [] [] (drop_fields from fields)) ≡ 0
FindsNext forms (Some next) fields from = IsNext forms next fields from

-- a way to a first leaf within these fields, of which this leap is kept
pub record IsWay (forms : List StructForm) (leap : Option Leap) (way : Way) (fields : Fields) : Type 0 where
  pub inner : Shape
  pub each : ℕ
  pub stands : StandsFor forms way.to.part inner
  pub count : way.to.count ≡ cut each
  pub some : 1 ≤ each
  pub leaf : 1 ≤ leaf_count inner
  pub few : (n : ℕ) → AreFewIn n fields → AreFew (n * each) inner × AreLeftFew way.left n fields
  pub kept : IsKept leap way.left
  pub slots : (n : ℕ) → field_slots n fields ≡ shape_slots (n * each) inner ++ left_slots way.left n fields

abbrev pub FindsWay : List StructForm → Option Leap → Option Way → Fields → Type 0
FindsWay forms leap None fields = leaf_count (OfFields fields) ≡ 0
FindsWay forms leap (Some way) fields = IsWay forms leap way fields

-- how often what is left can be put as parts that are less, at most
abbrev pub left_weight : Left → ℕ
left_weight (FieldsFrom next) = 1
left_weight (Behind steps) = 4 * steps + 2

abbrev pub weight : List Frame → ℕ
weight [] = 0
weight (frame ∷ inner) = left_weight frame.left + weight inner

-- the slots are those of the runs, and then others of these kinds. There are so many runs, or they are all.
pub record Lists (found : Slots) (slots : List Kind) (most : ℕ) : Type 0 where
  pub rest : List Kind
  pub is : slots ≡ flat_map run_slots found.runs.items ++ rest
  pub behind : found.behind ≡ kinds_among rest
  pub full : All (λ (run : Run). 1 ≤ run.count) found.runs.items
  pub enough : (most ≤ length found.runs.items) ⊎ (rest ≡ [])
