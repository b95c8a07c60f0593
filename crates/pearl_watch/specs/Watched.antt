-- Which slots are watched by their leaves' names, and which names are refused.
use Rattle.std.specs.Prelude.{◌≡◌, ℕ, zero, suc, ◌+◌, ◌<◌, Bool, true, false, ◌||◌, is_none, nat_lt, List, [], ◌∷◌, ◌++◌, Option, Some, None, length, take, get_or, slice_get, position}
use Rattle.std.specs.List.{list_any}
use Rattle.std.specs.Str.{bytes_eq}
use Rattle.pearl_instructions.specs.declared.object.Leaf.{Leaf}
use Rattle.pearl_instructions.specs.Objects.{first_slot}
use Rattle.pearl_watch.specs.declared.watched.Watched.{Watched}
use Rattle.pearl_watch.specs.declared.fault.WatchFault.{WatchFault}
use Rattle.pearl_watch.specs.declared.fault.WatchFault.TheVariants.{BadName, NoMemory}

-- a name means the first leaf of that name
abbrev pub leaf_named : List Leaf → List ℕ → Option ℕ
leaf_named leaves name = position (λ leaf. bytes_eq leaf.name name) leaves

-- so many slots of a leaf, in order, whose first slot has this number
abbrev pub slots_from : (name first count : ℕ) → List Watched
slots_from name first zero = []
slots_from name first (suc count) = slots_from name first count ++ record { name = name; number = count; slot = first + count } ∷ []

abbrev pub slots_of : List Leaf → (name v : ℕ) → Option Leaf → List Watched
slots_of leaves name v None = []
slots_of leaves name v (Some leaf) = slots_from name (first_slot leaves v) leaf.slots

-- all slots of the leaf that a name means
abbrev pub slots_named : List Leaf → ℕ → Option ℕ → List Watched
slots_named leaves name None = []
slots_named leaves name (Some v) = slots_of leaves name v (slice_get leaves v)

-- the name of a number, which counts from 0
abbrev pub name_at : List (List ℕ) → ℕ → List ℕ
name_at names name = get_or names name []

-- the slots that the first so many of the names watch, in the names' order
abbrev pub watched_by : List Leaf → List (List ℕ) → ℕ → List Watched
watched_by leaves names zero = []
watched_by leaves names (suc name) = watched_by leaves names name ++ slots_named leaves name (leaf_named leaves (name_at names name))

-- a name is refused where no leaf has it, where it stood before, or where with it more than 1,024 slots are watched
abbrev pub is_refused : List Leaf → List (List ℕ) → ℕ → Bool
is_refused leaves names name =
    is_none (leaf_named leaves (name_at names name)) || list_any (λ before. bytes_eq before (name_at names name)) (take name names)
    || nat_lt 1024 (length (watched_by leaves names (name + 1)))

-- a number that counts the names from 1, and the first name that is refused
pub record IsFirstRefused (leaves : List Leaf) (names : List (List ℕ)) (number : ℕ) : Type 0 where
  pub name : ℕ
  pub counted : number ≡ name + 1
  pub within : name < length names
  pub refused : is_refused leaves names name ≡ true
  pub first : (before : ℕ) → before < name → is_refused leaves names before ≡ false

-- why there is no watch; that memory is wanting has no rule
abbrev pub IsCause : List Leaf → List (List ℕ) → WatchFault → Type 0
IsCause leaves names (BadName number) = IsFirstRefused leaves names number
IsCause leaves names NoMemory = Unit {0}

-- no name is refused
abbrev pub AreAccepted : List Leaf → List (List ℕ) → Type 0
AreAccepted leaves names = (name : ℕ) → name < length names → is_refused leaves names name ≡ false
