-- What contracts see of a kernel, when it is lawful, and what its calls do.
use Rattle.std.specs.Prelude.{◌≡◌, ℕ, ◌<◌, ◌≤◌, List, ◌∷◌, Bool, true, false, ◌&&◌, Option, Some, None, length, drop, slice_set, map}
use Rattle.std.specs.Prelude.{replicate}
use Rattle.std.specs.List.{AllByRecursion}
use Rattle.pearl_value.specs.WellFormed.{IsValue}
use Rattle.pearl_rules.specs.declared.action.Action.{Action}
use Rattle.pearl_rules.specs.declared.event.Event.{Event}
use Rattle.pearl_rules.specs.declared.event.Event.TheVariants as event
use Rattle.pearl_rules.specs.declared.setup.Setup.{Setup}
use Rattle.pearl_rules.specs.Core.{Core, Report, Happened, Shows, is_active, declared_of, opening}
use Rattle.pearl_rules.specs.Effect.{Effect, Reply, Hears, Ends, effect}
use Rattle.pearl_rules.specs.Pick.{Offered, pick}
use Rattle.pearl_rules.specs.Runs.{dropped, kept_at}
use Rattle.pearl_rules.specs.Entries.{last_moment_of_all}
use Rattle.pearl_rules.specs.Slots.{Fits, HasKinds, HasUrgencies, HasPlans, IsTimedRow, HasLast}
use Rattle.pearl_value.specs.Counts.{IsPreset}
use Rattle.pearl_records.specs.declared.record.CoreRecord.{CoreRecord}
use Rattle.pearl_records.specs.Records.{core_made}
use Rattle.pearl_exchange.specs.declared.heard.Beside.{Beside}
use Rattle.pearl_exchange.specs.Heard.{answer_of}
use Rattle.pearl_kernel.specs.declared.kernel.Acted.{Acted}
use Rattle.pearl_kernel.specs.declared.kernel.Acted.TheVariants.{Idle, Went, Ended}

-- the core, where of what was told only what wasn't taken yet remains, and of each task the action that it has offered
pub record Kept : Type 0 where
  pub core : Core
  pub offers : List (Option Action)

abbrev pub offered : Kept → Offered
offered k t = kept_at k.offers t

-- a kernel at the start of a run
abbrev pub at_start : Setup → Kept
at_start setup = record { core = opening setup; offers = replicate (length setup.tasks) None }

-- a kernel that is made of a record
abbrev pub from_record : Setup → CoreRecord → Kept
from_record setup core = record { core = core_made setup core; offers = replicate (length setup.tasks) None }

-- events with the moment at which they happened
abbrev pub stamped : ℕ → List Event → List (ℕ × Report)
stamped moment events = map {B = ℕ × Report} (λ event. (moment, Happened event)) events

-- this event is the next that wasn't taken
abbrev pub IsToldNext : Core → Event → Type 0
IsToldNext core event = (later : List (ℕ × Report)) × (core.told ≡ (core.moment, Happened event) ∷ later)

-- the next event is taken
abbrev pub taken : Core → Core
taken core = record core { told = drop 1 core.told }

-- LAWFUL KERNELS

-- an event names a task or a device that is there, and what is sent is a value
abbrev pub NamesWhatIsThere : Setup → Event → Type 0
NamesWhatIsThere setup (event.Start task priority) = task < length setup.tasks
NamesWhatIsThere setup (event.End task) = task < length setup.tasks
NamesWhatIsThere setup (event.Stop task) = task < length setup.tasks
NamesWhatIsThere setup (event.Trap task trap) = task < length setup.tasks
NamesWhatIsThere setup (event.Kept task number) = task < length setup.tasks
NamesWhatIsThere setup (event.Overrun task) = task < length setup.tasks
NamesWhatIsThere setup (event.Masked device) = device < length setup.devices
NamesWhatIsThere setup (event.Lost device) = device < length setup.devices
NamesWhatIsThere setup (event.Out device text) = device < length setup.devices
NamesWhatIsThere setup (event.Send device value) = (device < length setup.devices) × IsValue value

abbrev pub IsReportOf : Setup → ℕ × Report → Type 0
IsReportOf setup (moment, Happened event) = NamesWhatIsThere setup event
IsReportOf setup (moment, Shows task shown) = ⊥

-- The kernel is one of these tables: it has their tasks, slots, semaphores and devices, and its moment is one that there
-- is. No count is above the greatest one, each slot and each input holds values of its kind, priorities are from 1 to 255,
-- and plans are lawful and have their series. Tasks have their declared priorities, and who acted last is one. A task
-- that isn't active has offered nothing, and what is offered fits the tables. What is still to be told happened, and
-- names what is there.
pub record IsLawful (setup : Setup) (k : Kept) : Type 0 where
  pub tasks : length k.core.tasks ≡ length setup.tasks
  pub counts : length k.core.counts ≡ length setup.semaphores
  pub counted : AllByRecursion IsPreset k.core.counts
  pub kinds : HasKinds setup k.core
  pub urgent : HasUrgencies k.core
  pub plans : HasPlans setup k.core
  pub moment : k.core.moment ≤ last_moment_of_all
  pub timed : AllByRecursion IsTimedRow k.core.tasks
  pub declared : map declared_of k.core.tasks ≡ map (λ task. task.priority) setup.tasks
  pub last : HasLast k.core
  pub same : length k.offers ≡ length k.core.tasks
  pub quiet : (t : ℕ) → is_active k.core t ≡ false → offered k t ≡ None
  pub fits : (t : ℕ) (action : Action) → offered k t ≡ Some action → Fits setup action
  pub told : AllByRecursion (IsReportOf setup) k.core.told

-- WHAT IS UNSETTLED

abbrev pub is_silent : Option Action → Bool
is_silent None = true
is_silent (Some action) = false

-- a task that is active and has offered nothing
abbrev pub is_unsettled : Kept → ℕ → Bool
is_unsettled k t = is_active k.core t && is_silent (offered k t)

-- the first such task
pub record IsFirst (k : Kept) (t : ℕ) : Type 0 where
  pub there : t < length k.core.tasks
  pub unsettled : is_unsettled k t ≡ true
  pub before : (u : ℕ) → u < t → is_unsettled k u ≡ false

-- there is none
abbrev pub AllSettled : Kept → Type 0
AllSettled k = (u : ℕ) → is_unsettled k u ≡ false

-- WHAT A TASK DOES

-- what an effect leaves; the offers of tasks that ended are gone
abbrev pub after : Kept → Effect → Kept
after k e = record { core = e.core; offers = dropped e.ended k.offers }

-- the action of task t is done, and its offer is gone
abbrev pub done : Kept → ℕ → Action → Kept
done k t action = after (record k { offers = slice_set k.offers t None }) (effect k.core t action)

-- task t is picked, and its action is done
pub record Acts (old : Kept) (t : ℕ) (reply : Reply) (new : Kept) : Type 0 where
  pub picked : pick old.core (offered old) ≡ Some t
  pub action : Action
  pub offers : offered old t ≡ Some action
  pub same_reply : (effect old.core t action).reply ≡ reply
  pub same : new ≡ done old t action

-- what a task has of its action, where these values lie beside what it hears
abbrev pub Replied : ℕ → Reply → Acted → Beside → Type 0
Replied t reply Idle beside = ⊥
Replied t reply (Went u heard) beside = (u ≡ t) × (reply ≡ Hears (answer_of heard beside))
Replied t reply (Ended u) beside = (u ≡ t) × (reply ≡ Ends)

-- what `act` did
abbrev pub Marks : Kept → Kept → Acted → Beside → Type 0
Marks old new Idle beside = (pick old.core (offered old) ≡ None) × (new ≡ old)
Marks old new (Went t heard) beside = Acts old t (Hears (answer_of heard beside)) new
Marks old new (Ended t) beside = Acts old t Ends new
