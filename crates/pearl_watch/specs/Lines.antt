-- The line of a watched slot's value, and when there is none.
use Rattle.std.specs.Prelude.{◌≡◌, ℕ, List, ◌++◌, Option, Some, None, codes, length, replicate, slice_get, slice_set}
use Rattle.std.specs.Fmt.{decimal}
use Rattle.pearl_value.specs.declared.cell.Cell.{Cell}
use Rattle.pearl_script.specs.Literals.{literal}
use Rattle.pearl_instructions.specs.declared.object.Leaf.{Leaf}
use Rattle.pearl_watch.specs.declared.watched.Watched.{Watched}
use Rattle.pearl_watch.specs.Watched.{name_at, watched_by}

-- the names, the slots that they watch, and of each the value that was given last
pub record Watching : Type 0 where
  pub names : List (List ℕ)
  pub watched : List Watched
  pub given : List (Option Cell)

-- all names watch, and nothing was given
abbrev pub begun : List Leaf → List (List ℕ) → Watching
begun leaves names =
    let watched = watched_by leaves names (length names) in
    record { names = names; watched = watched; given = replicate (length watched) None }

-- the value was given last at this place among the watched slots
abbrev pub IsLast : Watching → ℕ → Cell → Type 0
IsLast w at value = slice_get w.given at ≡ Some (Some value)

-- the marks so far, the moment in milliseconds, the name, the slot's number in its leaf, and the value
abbrev pub value_line : (marks moment : ℕ) → List ℕ → ℕ → Cell → List ℕ
value_line marks moment name number value =
    decimal marks ++ codes " " ++ decimal moment ++ codes " value " ++ name ++ codes " " ++ decimal number ++ codes " " ++ literal value ++ codes "\n"

-- The line says the value of this watched slot, which is given last from then on.
pub record Tells (old new : Watching) (marks moment at : ℕ) (value : Cell) (line : List ℕ) : Type 0 where
  pub slot : Watched
  pub there : slice_get old.watched at ≡ Some slot
  pub text : line ≡ value_line marks moment (name_at old.names slot.name) slot.number value
  pub given : new ≡ record old { given = slice_set old.given at (Some value) }
