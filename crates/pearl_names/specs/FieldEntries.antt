-- The fields of a STRUCT in order, and where the first field of a name stands.
use Rattle.std.specs.Prelude.{◌≡◌, ℕ, suc, if◌then◌else◌, List, [], ◌∷◌, Option, Some, None, option_map}
use Rattle.std.specs.Str.{bytes_eq}
use Rattle.arrayvec.specs.ArrayVec.{ArrayVec}
use Rattle.pearl_names.specs.declared.types.FieldForm.{FieldForm}
use Rattle.pearl_names.specs.FirstNames.{number_of}

-- the fields behind their names
pub record FieldEntries : Type 0 where
  pub entries : List (ArrayVec ℕ × FieldForm)

-- the place of the first field that has this name
abbrev pub field_place : List (ArrayVec ℕ × FieldForm) → List ℕ → Option ℕ
field_place [] text = None
field_place (entry ∷ rest) text =
    if bytes_eq text entry.0.items then Some 0 else option_map suc (field_place rest text)

-- a map from names to the places of the first fields that have them
abbrev pub HasPlaces : List (ArrayVec ℕ × FieldForm) → List (ArrayVec ℕ × ℕ) → Type 0
HasPlaces entries places = (text : List ℕ) → number_of places text ≡ field_place entries text
