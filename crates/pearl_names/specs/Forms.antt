-- Which forms in a table stand for which shapes. A shape has each TYPE that it names written out; a form names others, which
-- stand before it, by their numbers.
use Rattle.std.specs.Prelude.{◌≡◌, ℕ, ◌+◌, ◌*◌, ℤ, if◌then◌else◌, List, [], ◌∷◌, ◌++◌, map, length, take, Option, Some, None, slice_get}
use Rattle.std.specs.Str.{bytes_eq}
use Rattle.arrayvec.specs.ArrayVec.{ArrayVec}
use Rattle.pearl_tree.specs.declared.name.Name.{Name}
use Rattle.pearl_tree.specs.Names.{name_text}
use Rattle.pearl_names.specs.Shapes.{Shape, OfKind, OfFields, Fields, NoField, MoreField}
use Rattle.pearl_names.specs.Layout.{leaves_of, leaves_of_fields, elements, slots_of}
use Rattle.pearl_names.specs.declared.types.Counts.{Counts}
use Rattle.pearl_names.specs.declared.sense.Bounds.{Bounds}
use Rattle.pearl_names.specs.declared.types.TypeRef.{TypeRef}
use Rattle.pearl_names.specs.declared.types.TypeRef.TheVariants.{Basic, Struct}
use Rattle.pearl_names.specs.declared.types.FieldForm.{FieldForm}
use Rattle.pearl_names.specs.declared.types.StructForm.{StructForm}
use Rattle.pearl_names.specs.declared.types.Elements.{Elements}
use Rattle.pearl_names.specs.Chains.{only_end}
use Rattle.pearl_names.specs.Leaps.{LeapStands}
use Rattle.pearl_names.specs.Runs.{tails_of}
use Rattle.pearl_names.specs.Counts.{cut, counts, counts_of, joined, within, behind_name}

-- the bounds of a dimension
abbrev pub pair_of : Bounds → ℤ × ℤ
pair_of bounds = (bounds.lower, bounds.upper)

abbrev pub leaf_count : Shape → ℕ
leaf_count shape = length (leaves_of [] [] shape)

abbrev pub slot_count : List (ℤ × ℤ) → Shape → ℕ
slot_count bounds shape = elements bounds * length (slots_of (leaves_of [] [] shape))

-- a field of this name, behind so many leaves and slots
pub record IsField (key : ArrayVec ℕ) (field : FieldForm) (leaves slots : ℕ) (name : List ℕ) (bounds : List (ℤ × ℤ)) : Type 0 where
  pub named : key.items ≡ name
  pub leaf : field.leaf ≡ cut leaves
  pub slot : field.slot ≡ cut slots
  pub dimensions : field.dimensions ≡ cut (length bounds)
  pub count : field.elements ≡ cut (elements bounds)

-- the bounds of a field stand at its place among those of its STRUCT
pub record HasBounds (all : List Bounds) (field : FieldForm) (bounds : List (ℤ × ℤ)) : Type 0 where
  pub before : List Bounds
  pub own : List Bounds
  pub behind : List Bounds
  pub is : all ≡ before ++ (own ++ behind)
  pub first : field.first ≡ length before
  pub past : field.past ≡ length before + length own
  pub pairs : map pair_of own ≡ bounds

abbrev pub AllBounded : List Bounds → List (ArrayVec ℕ × FieldForm) → Fields → Type 0
AllBounded all [] NoField = Unit {0}
AllBounded all (entry ∷ entries) (MoreField name bounds shape rest) = HasBounds all entry.1 bounds × AllBounded all entries rest
AllBounded all entries fields = ⊥

unfoldable mutual
  pub StandsFor : List StructForm → TypeRef → Shape → Type 0
  StandsFor forms (Basic kind) (OfKind to) = kind ≡ to
  StandsFor forms (Struct number) (OfFields fields) =
      (form : StructForm) × (slice_get forms number ≡ Some form) × FieldsStand (take number forms) 0 0 form.fields.entries fields ×
      (form.counts ≡ counts (leaves_of_fields [] [] fields)) × (form.tails.items ≡ tails_of fields) ×
      AllBounded form.bounds.items form.fields.entries fields ×
      (form.end ≡ only_end (take number forms) form.fields.entries) ×
      LeapStands (take number forms) form.leap form.fields.entries fields
  StandsFor forms part shape = ⊥

  pub FieldsStand : List StructForm → (leaves slots : ℕ) → List (ArrayVec ℕ × FieldForm) → Fields → Type 0
  FieldsStand forms leaves slots [] NoField = Unit {0}
  FieldsStand forms leaves slots (entry ∷ entries) (MoreField name bounds shape rest) =
      IsField entry.0 entry.1 leaves slots name bounds × StandsFor forms entry.1.part shape ×
      FieldsStand forms (leaves + leaf_count shape) (slots + slot_count bounds shape) entries rest
  FieldsStand forms leaves slots entries fields = ⊥

-- so many elements of a part are one of this shape: they have its leaves, behind these names and within these bounds
pub record EndsIn (forms : List StructForm) (end : Elements) (shape : Shape) : Type 0 where
  pub last : Shape
  pub path : List (List ℕ)
  pub bounds : List (ℤ × ℤ)
  pub stands : StandsFor forms end.part last
  pub count : end.count ≡ cut (elements bounds)
  pub leaves : (behind : List (List ℕ)) (around : List (ℤ × ℤ)) → leaves_of behind around shape ≡ leaves_of (behind ++ path) (around ++ bounds) last

-- a part with no shape has no form
abbrev pub Matches : List StructForm → Option TypeRef → Option Shape → Type 0
Matches forms None None = Unit {0}
Matches forms (Some part) (Some shape) = StandsFor forms part shape
Matches forms part shape = ⊥

-- a field in the shape that has each TYPE written out, and how many leaves and slots stand before it
pub record Component : Type 0 where
  pub bounds : List (ℤ × ℤ)
  pub shape : Shape
  pub leaf : ℕ
  pub slot : ℕ

abbrev pub component : (leaves slots : ℕ) → Fields → List ℕ → Option Component
component leaves slots NoField text = None
component leaves slots (MoreField name bounds shape rest) text =
    if bytes_eq text name then Some (record { bounds = bounds; shape = shape; leaf = leaves; slot = slots }) else
    component (leaves + leaf_count shape) (slots + slot_count bounds shape) rest text

pub record IsComponent (forms : List StructForm) (field : FieldForm) (of : Component) : Type 0 where
  pub leaf : field.leaf ≡ cut of.leaf
  pub slot : field.slot ≡ cut of.slot
  pub dimensions : field.dimensions ≡ cut (length of.bounds)
  pub count : field.elements ≡ cut (elements of.bounds)
  pub part : StandsFor forms field.part of.shape

abbrev pub MatchesComponent : List StructForm → Option FieldForm → Option Component → Type 0
MatchesComponent forms None None = Unit {0}
MatchesComponent forms (Some field) (Some of) = IsComponent forms field of
MatchesComponent forms field of = ⊥

-- the bounds of a field that was found stand among these
abbrev pub FindsBounds : List Bounds → Option FieldForm → Option Component → Type 0
FindsBounds all None None = Unit {0}
FindsBounds all (Some field) (Some of) = HasBounds all field of.bounds
FindsBounds all field of = ⊥

abbrev pub append_fields : Fields → Fields → Fields
append_fields NoField more = more
append_fields (MoreField name bounds shape rest) more = MoreField name bounds shape (append_fields rest more)

-- a form with these fields
pub record IsForm (forms : List StructForm) (form : StructForm) (fields : Fields) : Type 0 where
  pub stand : FieldsStand forms 0 0 form.fields.entries fields
  pub counted : form.counts ≡ counts (leaves_of_fields [] [] fields)
  pub bounded : AllBounded form.bounds.items form.fields.entries fields

-- a field of such a part, whose bounds stand among these
pub record IsPart (forms : List StructForm) (all : List Bounds) (field : FieldForm) (counted : Counts) (bounds : List (ℤ × ℤ)) (shape : Shape) : Type 0 where
  pub part : StandsFor forms field.part shape
  pub dimensions : field.dimensions ≡ cut (length bounds)
  pub count : field.elements ≡ cut (elements bounds)
  pub each : counted ≡ within field.dimensions field.elements (counts_of shape)
  pub bounded : HasBounds all field bounds

-- the keys are the texts of these names
abbrev pub AreNamed : List (ArrayVec ℕ × FieldForm) → List Name → Type 0
AreNamed entries names = map (λ entry. entry.0.items) entries ≡ map name_text names

-- a field is added
abbrev pub Adds : StructForm → ArrayVec ℕ → FieldForm → Counts → StructForm → Type 0
Adds old key field each new =
    (new.fields.entries ≡ old.fields.entries ++ (key, record field { leaf = old.counts.leaves; slot = old.counts.slots }) ∷ []) ×
    (new.counts ≡ joined old.counts (behind_name (1 + length key.items) each)) × (new.bounds ≡ old.bounds)
