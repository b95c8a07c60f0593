-- Names that were seen, by their texts.
use Rattle.std.specs.Prelude.{◌≡◌, ℕ, List, is_some}
use Rattle.arrayvec.specs.ArrayVec.{ArrayVec}
use Rattle.pearl_tree.specs.declared.name.Name.{Name}
use Rattle.pearl_tree.specs.Names.{is_among}
use Rattle.pearl_names.specs.FirstNames.{number_of}

-- the map has the texts of these names
abbrev pub Sees : List (ArrayVec ℕ × ℕ) → List Name → Type 0
Sees entries names = (text : List ℕ) → is_some (number_of entries text) ≡ is_among names text
