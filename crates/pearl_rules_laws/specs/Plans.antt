-- What plans come to: which moment a time of day is, at which moments a plan serves, which plans an interrupt concerns,
-- and what becomes of a task where plans serve; what is told, how one device changes, and how a task is broken off
-- there.
use Rattle.std.specs.Prelude.{◌≡◌, ◌≢◌, ◌⊎◌, ℕ, ◌+◌, ◌*◌, ◌≤◌, ℤ, List, [], ◌∷◌, ◌++◌, Bool, true, false, ◌&&◌, if◌then◌else◌, Option, Some, None, unwrap_or, length}
use Rattle.pearl_value.specs.declared.cell.Cell.{Cell}
use Rattle.pearl_value.specs.declared.kind.Kind.{Kind}
use Rattle.pearl_value.specs.declared.trap.Trap.{Trap}
use Rattle.pearl_rules.specs.declared.action.Start.{Start}
use Rattle.pearl_rules.specs.declared.action.Start.TheVariants.{When, WhenAfter}
use Rattle.pearl_rules.specs.declared.action.Repeat.{Repeat}
use Rattle.pearl_rules.specs.declared.event.Event.{Event}
use Rattle.pearl_rules.specs.declared.event.Event.TheVariants as event
use Rattle.pearl_rules.specs.declared.row.Kept.{Kept}
use Rattle.pearl_rules.specs.declared.row.Kept.TheVariants as kept
use Rattle.pearl_rules.specs.declared.row.Mode.{Mode}
use Rattle.pearl_rules.specs.declared.row.Mode.TheVariants.{Dormant, Active}
use Rattle.pearl_rules.specs.declared.row.Plan.{Plan}
use Rattle.pearl_rules.specs.declared.row.Activation.{Activation}
use Rattle.pearl_rules.specs.declared.row.TaskRow.{TaskRow}
use Rattle.pearl_rules.specs.Core.{Core, Report, Happened, Channel, Values, row_of}
use Rattle.pearl_rules.specs.Plans.{priorities, and_one, oldest, time_at, planned, begun, waits_for, serves_if}
use Rattle.pearl_rules.specs.Devices.{channel_of}
use Rattle.pearl_rules.specs.Effect.{Effect, Ends, priority_or_declared}
use Rattle.pearl_rules.specs.Laws.{happened_at, events_behind, row_behind, IsLate}

-- TIME

-- a moment at which it is this time of day, not before another, and the least one
pub record IsNextTime (core : Core) (time moment next : ℕ) : Type 0 where
  pub right : time_at core next ≡ time
  pub later : moment ≤ next
  pub least : (u : ℕ) → moment ≤ u → time_at core u ≡ time → next ≤ u

-- u is the first moment or so many periods after it, and not behind the last one
abbrev pub IsMoment : (first period last u : ℕ) → Type 0
IsMoment first period last u = ((times : ℕ) × (u ≡ first + times * period)) × (u ≤ last)

-- the plan waits for an interrupt
abbrev pub Waits : Start → Type 0
Waits (When interrupt) = Unit {0}
Waits (WhenAfter interrupt time) = Unit {0}
Waits other = ⊥

-- it is written with this interrupt, without or with a time after it
abbrev pub IsWrittenWith : (interrupt : ℕ) → Start → Type 0
IsWrittenWith interrupt start = (start ≡ When interrupt) ⊎ ((time : ℤ) × (start ≡ WhenAfter interrupt time))

-- the plan waits for this interrupt, and its first moment comes no time after it
abbrev pub ServesAtOnce : (interrupt : ℕ) → Plan → Type 0
ServesAtOnce interrupt plan = (plan.when ≡ Some interrupt) × (plan.after ≡ 0)

-- neither of the task's plans waits for this interrupt
pub record IsUntouchedBy (interrupt : ℕ) (row : TaskRow) : Type 0 where
  pub goes_on : (plan : Plan) → row.continuation ≡ Some plan → plan.when ≢ Some interrupt
  pub starts : (activation : Activation) → row.activation ≡ Some activation → activation.plan.when ≢ Some interrupt

-- WHAT IS TOLD

-- this event was told at the moment that it was, behind all that had been told
pub record IsTold (old new : Core) (event : Event) : Type 0 where
  pub front : List (ℕ × Report)
  pub behind : List (ℕ × Report)
  pub told : new.told ≡ old.told ++ (front ++ (old.moment, Happened event) ∷ behind)

-- and it tells what became of a start of a task that was active
pub record IsToldLate (old new : Core) (t : ℕ) : Type 0 where
  pub late : Event
  pub is_late : IsLate t late
  pub told : IsTold old new late

-- ONE TASK

-- one task's row is this now, these events were told, and nothing else changed
pub record ChangesRow (old new : Core) (t : ℕ) (row : TaskRow) (events : List Event) : Type 0 where
  pub this : row_of new t ≡ Some row
  pub others : (u : ℕ) → u ≢ t → row_of new u ≡ row_of old u
  pub rest : new ≡ record old { tasks = new.tasks; told = old.told ++ happened_at old.moment events }

-- how a task stands after it was to go on and to be started with a priority: an active one goes on, a dormant one is
-- started
abbrev pub mode_after : (goes_on : Bool) (starts : Option ℕ) → Mode → Mode
mode_after goes_on None Dormant = Dormant
mode_after goes_on (Some priority) Dormant = Active priority false
mode_after true starts (Active priority suspended) = Active priority false
mode_after false starts (Active priority suspended) = Active priority suspended

-- what it keeps then, where it kept these: a dormant one none, an active one this start too, where it has room for it
abbrev pub kept_after : (starts : Option ℕ) → Mode → Kept → Kept
kept_after None mode held = held
kept_after (Some priority) Dormant held = kept.Nothing
kept_after (Some priority) (Active own suspended) held = unwrap_or (and_one held priority) held

-- what is told of a start of an active task, where this is what it keeps with it
abbrev pub late_event : (t : ℕ) → Option Kept → Event
late_event t None = event.Overrun t
late_event t (Some more) = event.Kept t (length (priorities more))

-- what is told of it
abbrev pub start_events : (t : ℕ) (starts : Option ℕ) → Mode → Kept → List Event
start_events t None mode held = []
start_events t (Some priority) Dormant held = event.Start t priority ∷ []
start_events t (Some priority) (Active own suspended) held = late_event t (and_one held priority) ∷ []

-- and of all tasks that were to be started so, in order of declaration; the first task has the number t
abbrev pub all_start_events : (starts : TaskRow → Option ℕ) → (t : ℕ) → List TaskRow → List Event
all_start_events starts t [] = []
all_start_events starts t (row ∷ rows) = start_events t (starts row) row.mode row.kept ++ all_start_events starts (t + 1) rows

-- one more start is kept, behind those that the task of this row kept: it is the last, their number is told, and nothing
-- else changed
pub record KeepsOneMore (old new : Core) (t : ℕ) (row : TaskRow) (priority : ℕ) : Type 0 where
  pub more : Kept
  pub last : priorities more ≡ priorities row.kept ++ priority ∷ []
  pub changes : ChangesRow old new t (record row { kept = more }) (event.Kept t (length (priorities more)) ∷ [])

-- a task ends, and this event tells it: it is dormant then, or active anew with the oldest start that it kept, and keeps the
-- others; it goes on by no plan, and the plan by which it is started stays
abbrev pub EndsRow : (old new : Core) (t : ℕ) → TaskRow → Event → Type 0
EndsRow old new t row told = ChangesRow old new t (row_behind (oldest row.kept) row) (told ∷ events_behind t (oldest row.kept))

-- the priority with which a task is to be started now
abbrev pub starts_now : Core → Option Activation → Option ℕ
starts_now core None = None
starts_now core (Some activation) = if serves_if core (Some activation.plan) then Some activation.priority else None

-- NEW PLANS

-- the plan that an action makes to start a task
abbrev pub new_activation : Core → (t : ℕ) → Start → Repeat → Option ℕ → Activation
new_activation core t start repeat priority =
    record { plan = planned core start repeat; priority = priority_or_declared core t priority }

-- a task with a new plan to be started, which serves at once where its series fires now
abbrev pub with_new_activation : Core → Activation → TaskRow → TaskRow
with_new_activation core activation row = record row {
  mode = mode_after false (starts_now core (Some activation)) row.mode;
  kept = kept_after (starts_now core (Some activation)) row.mode row.kept;
  activation = Some activation;
}

-- a task with a new plan to go on, which serves at once where its series fires now, and is gone then
abbrev pub with_new_continuation : Core → Plan → TaskRow → TaskRow
with_new_continuation core plan row = record row {
  mode = mode_after (serves_if core (Some plan)) None row.mode;
  continuation = if serves_if core (Some plan) then None else Some plan;
}

-- MILLISECONDS

-- a task after the plans that fire now have served: a plan by which it goes on is gone then
abbrev pub served_row : Core → TaskRow → TaskRow
served_row core row = record row {
  mode = mode_after (serves_if core row.continuation) (starts_now core row.activation) row.mode;
  kept = kept_after (starts_now core row.activation) row.mode row.kept;
  continuation = if serves_if core row.continuation then None else row.continuation;
}

-- what is told where the plans of tasks serve, the first task having the number t
abbrev pub served_events : Core → (t : ℕ) → List TaskRow → List Event
served_events core = all_start_events (λ row. starts_now core row.activation)

-- INTERRUPTS

-- the plan after an interrupt occurred: one that waits for it begins a new series
abbrev pub plan_after : Core → (interrupt : ℕ) → Plan → Plan
plan_after core interrupt plan = if waits_for interrupt plan.when then begun core plan else plan

-- whether it serves at once
abbrev pub serves_after : Core → (interrupt : ℕ) → Plan → Bool
serves_after core interrupt plan = waits_for interrupt plan.when && serves_if core (Some (begun core plan))

abbrev pub goes_after : Core → (interrupt : ℕ) → Option Plan → Bool
goes_after core interrupt None = false
goes_after core interrupt (Some plan) = serves_after core interrupt plan

abbrev pub starts_after : Core → (interrupt : ℕ) → Option Activation → Option ℕ
starts_after core interrupt None = None
starts_after core interrupt (Some activation) =
    if serves_after core interrupt activation.plan then Some activation.priority else None

abbrev pub continuation_after : Core → (interrupt : ℕ) → Option Plan → Option Plan
continuation_after core interrupt None = None
continuation_after core interrupt (Some plan) =
    if serves_after core interrupt plan then None else Some (plan_after core interrupt plan)

abbrev pub activation_after : Core → (interrupt : ℕ) → Option Activation → Option Activation
activation_after core interrupt None = None
activation_after core interrupt (Some activation) =
    Some (record activation { plan = plan_after core interrupt activation.plan })

-- a task after an interrupt occurred
abbrev pub reached_row : Core → (interrupt : ℕ) → TaskRow → TaskRow
reached_row core interrupt row = record row {
  mode = mode_after (goes_after core interrupt row.continuation) (starts_after core interrupt row.activation) row.mode;
  kept = kept_after (starts_after core interrupt row.activation) row.mode row.kept;
  continuation = continuation_after core interrupt row.continuation;
  activation = activation_after core interrupt row.activation;
}

-- what is told then
abbrev pub reached_events : Core → (interrupt t : ℕ) → List TaskRow → List Event
reached_events core interrupt = all_start_events (λ row. starts_after core interrupt row.activation)

-- DEVICES

-- a device's channel is this now, and nothing else changed
pub record ChangesChannel (old new : Core) (device : ℕ) (channel : Channel) : Type 0 where
  pub this : channel_of new device ≡ Some channel
  pub others : (other : ℕ) → other ≢ device → channel_of new other ≡ channel_of old other
  pub rest : new ≡ record old { channels = new.channels }

-- a value waits at an input
pub record ValueWaits (core : Core) (device : ℕ) : Type 0 where
  pub kind : Kind
  pub oldest : Cell
  pub later : List Cell
  pub stands : channel_of core device ≡ Some (Values kind (oldest ∷ later))

-- a task acts, a device's channel becomes this, and then the task is broken off and hears nothing more; nothing else changed
pub record BreaksOff (core : Core) (own device : ℕ) (channel : Channel) (row : TaskRow) (trap : Trap) (done : Effect) : Type 0 where
  pub between : Core
  pub channel_changes : ChangesChannel (record core { last = Some own }) between device channel
  pub row_changes : EndsRow between done.core own row (event.Trap own trap)
  pub replies : done.reply ≡ Ends
  pub ends : done.ended ≡ own ∷ []
