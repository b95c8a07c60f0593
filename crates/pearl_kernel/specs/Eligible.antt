-- The set of the tasks that can act, each with its priority number, and what is kept for it of each task.
use Rattle.std.specs.Prelude.{◌≡◌, ℕ, ◌<◌, List, Bool, true, false, Option, Some, None, length, slice_get, slice_set}
use Rattle.pearl_rules.specs.Core.{row_of}
use Rattle.pearl_rules.specs.Pick.{is_possible, is_ready_row, priority_of}
use Rattle.pearl_kernel.specs.Kept.{Kept, offered}

-- whether what a task has offered can be done
abbrev pub possible : Kept → ℕ → Bool
possible k t = is_possible k.core (offered k t)

abbrev pub number_if : Bool → ℕ → Option ℕ
number_if true priority = Some priority
number_if false priority = None

-- the priority number of a task that can act, where this is whether what it has offered can be done
abbrev pub entry_if : Kept → ℕ → (able : Bool) → Option ℕ
entry_if k t able = number_if (is_ready_row (row_of k.core t) able) (priority_of k.core t)

-- the priority number of a task that can act
abbrev pub entry : Kept → ℕ → Option ℕ
entry k t = entry_if k t (possible k t)

-- the set has each task that can act
pub record IsSetOf (k : Kept) (set : List (Option ℕ)) : Type 0 where
  pub size : length set ≡ length k.core.tasks
  pub each : (t : ℕ) → t < length k.core.tasks → slice_get set t ≡ Some (entry k t)

-- of each task whether what it has offered can be done, and the set of the tasks that can act
pub record Stand : Type 0 where
  pub able : List Bool
  pub set : List (Option ℕ)

abbrev pub is_told : Option Bool → Bool
is_told None = false
is_told (Some able) = able

-- what is kept of whether a task's offer can be done; of a task that isn't there it can't
abbrev pub able_at : Stand → ℕ → Bool
able_at s t = is_told (slice_get s.able t)

-- it is kept of a task whether its offer can be done, and it stands in the set accordingly
abbrev pub noted : Kept → ℕ → Bool → Stand → Stand
noted k t able s = record { able = slice_set s.able t able; set = slice_set s.set t (entry_if k t able) }

-- what is kept of a task is as before
pub record IsSameAt (old new : Stand) (t : ℕ) : Type 0 where
  pub able : slice_get new.able t ≡ slice_get old.able t
  pub set : slice_get new.set t ≡ slice_get old.set t

-- what is kept is so
pub record IsStandOf (k : Kept) (s : Stand) : Type 0 where
  pub size : length s.able ≡ length k.core.tasks
  pub able : (t : ℕ) → t < length k.core.tasks → slice_get s.able t ≡ Some (possible k t)
  pub ready : IsSetOf k s.set
