-- What becomes of the starts that tasks keep: what a task keeps is a queue.
use Rattle.std.specs.Prelude.{◌≡◌, ◌≢◌, ◌⊎◌, ℕ, ◌≤◌, List, [], ◌∷◌, ◌++◌, Contains, length}
use Rattle.pearl_rules.specs.declared.action.Action.{Action}
use Rattle.pearl_rules.specs.declared.action.Action.TheVariants as action
use Rattle.pearl_rules.specs.declared.event.Event.{Event}
use Rattle.pearl_rules.specs.declared.event.Event.TheVariants as event
use Rattle.pearl_rules.specs.declared.row.Kept.TheVariants as kept
use Rattle.pearl_rules.specs.declared.row.Mode.TheVariants.{Dormant}
use Rattle.pearl_rules.specs.Core.{Core, Report, Happened, mode_of}
use Rattle.pearl_rules.specs.Plans.{priorities, kept_of}

-- no dormant task keeps a start
abbrev pub DormantKeepNone : Core → Type 0
DormantKeepNone core = (t : ℕ) → mode_of core t ≡ Dormant → kept_of core t ≡ kept.Nothing

-- the priorities of the starts that a task keeps, from the oldest on
abbrev pub kept_list : Core → ℕ → List ℕ
kept_list core t = priorities (kept_of core t)

-- behind what a task kept there is one more, three at most, and this was told with their number
pub record OneMore (t : ℕ) (old new : List ℕ) (more : List (ℕ × Report)) (moment : ℕ) : Type 0 where
  pub priority : ℕ
  pub last : new ≡ old ++ priority ∷ []
  pub room : length new ≤ 3
  pub told : Contains more (moment, Happened (event.Kept t (length new)))

-- a task ended: by itself, from outside, or broken off
abbrev pub IsEndOf : ℕ → Event → Type 0
IsEndOf t (event.End task) = task ≡ t
IsEndOf t (event.Stop task) = task ≡ t
IsEndOf t (event.Trap task trap) = task ≡ t
IsEndOf t _ = ⊥

-- the oldest of what a task kept is gone, and this was told: the task ended, and was started with it
pub record OldestServed (t : ℕ) (old new : List ℕ) (more : List (ℕ × Report)) (moment : ℕ) : Type 0 where
  pub first : ℕ
  pub oldest : old ≡ first ∷ new
  pub end : Event
  pub is_end : IsEndOf t end
  pub ended : Contains more (moment, Happened end)
  pub told : Contains more (moment, Happened (event.Start t first))

-- it stays, or grows by one
abbrev pub Grows : (t : ℕ) (old new : List ℕ) (more : List (ℕ × Report)) (moment : ℕ) → Type 0
Grows t old new more moment = (new ≡ old) ⊎ OneMore t old new more moment

-- so it is of each task in another core, in which this and more was told
pub record KeepsAll (core after : Core) : Type 0 where
  pub more : List (ℕ × Report)
  pub told : after.told ≡ core.told ++ more
  pub each : (t : ℕ) → Grows t (kept_list core t) (kept_list after t) more after.moment

-- And so it is after an action, but for a task that ends, which is started with its oldest start, and one that a PREVENT names.
pub record KeepsOrServes (core : Core) (asked : Action) (after : Core) : Type 0 where
  pub more : List (ℕ × Report)
  pub told : after.told ≡ core.told ++ more
  pub each : (t : ℕ) → asked ≢ action.Prevent t → Grows t (kept_list core t) (kept_list after t) more after.moment
      ⊎ OldestServed t (kept_list core t) (kept_list after t) more after.moment
