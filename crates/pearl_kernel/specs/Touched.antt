-- Which tasks besides its own an action touches: they may be able to act where they were not, or the other way round.
use Rattle.std.specs.Prelude.{◌≡◌, ◌≢◌, ℕ, ◌<◌, ◌⊎◌, List, [], ◌∷◌, false, Option, Some, None, length}
use Rattle.pearl_rules.specs.Core.{Core, row_of}
use Rattle.pearl_rules.specs.Counts.{count_at}
use Rattle.pearl_sema.specs.Waiting.{names}
use Rattle.pearl_kernel.specs.declared.changes.Changed.{Changed}
use Rattle.pearl_kernel.specs.declared.changes.Changed.TheVariants.{Nothing, Counts}
use Rattle.pearl_kernel.specs.declared.changes.Touched.{Touched}
use Rattle.pearl_kernel.specs.declared.changes.Touched.TheVariants as touched
use Rattle.pearl_kernel.specs.Kept.{Kept, offered}
use Rattle.pearl_kernel.specs.Changes.{ChangesOnly, IsRenewedAt, IsUnmoved}
use Rattle.pearl_kernel.specs.Eligible.{Stand, IsSameAt}
use Rattle.pearl_kernel.specs.Requests.{WaitsForOne}

-- the tasks that an action touches: none, one, those that wait for one of these semaphores, or those that a change touches
pub data Reach : Type 0 where
  Own : Reach
  Other : (task : ℕ) → Reach
  Waiters : (list : List ℕ) → Reach
  After : (changed : Changed) → Reach

-- those that are told, where the action names these semaphores
abbrev pub reach_of : (list : List ℕ) → Touched → Reach
reach_of list touched.Own = Own
reach_of list (touched.Other task) = Other task
reach_of list (touched.One semaphore) = Waiters (semaphore ∷ [])
reach_of list touched.Named = Waiters list
reach_of list (touched.After changed) = After changed

-- the task isn't one of those that are touched, where these offers stand
abbrev pub IsUntouched : Kept → Reach → ℕ → Type 0
IsUntouched k Own t = Unit {0}
IsUntouched k (Other task) t = t ≢ task
IsUntouched k (Waiters list) t = WaitsForOne k.offers list t → ⊥
IsUntouched k (After changed) t = IsUnmoved k changed t

-- what may have changed of all that offers wait for
abbrev pub changed_by : Reach → Changed
changed_by Own = Nothing
changed_by (Other task) = Nothing
changed_by (Waiters list) = Counts
changed_by (After changed) = changed

-- where those are touched that wait for one of some semaphores, all other counts are as they were
abbrev pub KeepsOthers : Reach → Core → Core → Type 0
KeepsOthers (Waiters list) old new =
    (semaphore : ℕ) → names list semaphore ≡ false → count_at new.counts semaphore ≡ count_at old.counts semaphore
KeepsOthers other old new = Unit {0}

-- none but its own where neither other rows nor what offers wait for changed; else those that this change touches
abbrev pub touched_if : Option Changed → Touched
touched_if None = touched.Own
touched_if (Some changed) = touched.After changed

-- the task that is touched is there
abbrev pub IsThere : Core → Reach → Type 0
IsThere core Own = Unit {0}
IsThere core (Other task) = task < length core.tasks
IsThere core (Waiters list) = Unit {0}
IsThere core (After changed) = Unit {0}

-- An action of the task `own` changed no more than this of all that offers wait for, and another task that it doesn't
-- touch stands as before.
pub record Leaves (own : ℕ) (old new : Kept) (touched : Reach) : Type 0 where
  pub only : ChangesOnly (changed_by touched) old.core new.core
  pub kept : KeepsOthers touched old.core new.core
  pub others : (t : ℕ) → t ≢ own → IsUntouched new touched t →
      (row_of new.core t ≡ row_of old.core t) × (offered new t ≡ offered old t)
  pub there : IsThere old.core touched

-- what is kept of each task is renewed; of a task that isn't touched it is as before
pub record IsRenewed (k : Kept) (own : ℕ) (touched : Reach) (old new : Stand) : Type 0 where
  pub size : length new.able ≡ length old.able
  pub set_size : length new.set ≡ length old.set
  pub each : (t : ℕ) → t < length k.core.tasks → IsRenewedAt k (changed_by touched) old new t
      ⊎ ((t ≢ own) × IsUntouched k touched t × IsSameAt old new t)
