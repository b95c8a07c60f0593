-- When a plan serves: the time of day, the moments that a plan as written comes to, and what a plan does that serves.
use Rattle.std.specs.Prelude.{ℕ, zero, suc, ◌+◌, ◌-◌, ◌^◌, ◌%◌, ℤ, pos, negsuc, List, [], ◌∷◌, Bool, false, Option, Some, None, length, nat_eq, if◌then◌else◌}
use Rattle.pearl_rules.specs.declared.series.Series.{Series}
use Rattle.pearl_rules.specs.Series.{fires_if}
use Rattle.pearl_rules.specs.declared.action.Start.{Start}
use Rattle.pearl_rules.specs.declared.action.Start.TheVariants.{At, After, When, WhenAfter}
use Rattle.pearl_rules.specs.declared.action.Repeat.{Repeat}
use Rattle.pearl_rules.specs.declared.action.Repeat.TheVariants.{Once, All, Until, During}
use Rattle.pearl_rules.specs.declared.event.Event.TheVariants as event
use Rattle.pearl_rules.specs.declared.row.Mode.{Mode}
use Rattle.pearl_rules.specs.declared.row.Mode.TheVariants.{Dormant, Active}
use Rattle.pearl_rules.specs.declared.row.Kept.{Kept}
use Rattle.pearl_rules.specs.declared.row.Kept.TheVariants.{Nothing, One, Two, Three}
use Rattle.pearl_rules.specs.declared.row.End.{End}
use Rattle.pearl_rules.specs.declared.row.End.TheVariants as end
use Rattle.pearl_rules.specs.declared.row.Plan.{Plan}
use Rattle.pearl_rules.specs.declared.row.Activation.{Activation}
use Rattle.pearl_rules.specs.declared.row.TaskRow.{TaskRow}
use Rattle.pearl_rules.specs.Core.{Core, note, row_of, with_row, mode_of}

-- ROWS

abbrev pub on_row : Option TaskRow → Core → (TaskRow → Core) → Core
on_row None core go = core
on_row (Some row) core go = go row

-- the task's row is changed so
abbrev pub changed_row : Core → ℕ → (TaskRow → TaskRow) → Core
changed_row core t change = on_row (row_of core t) core (λ row. with_row core t (change row))

-- the task stands so from now on
abbrev pub with_mode : Core → ℕ → Mode → Core
with_mode core t mode = changed_row core t (λ row. record row { mode = mode })

abbrev pub with_continuation : Core → ℕ → Option Plan → Core
with_continuation core t plan = changed_row core t (λ row. record row { continuation = plan })

abbrev pub with_activation : Core → ℕ → Option Activation → Core
with_activation core t plan = changed_row core t (λ row. record row { activation = plan })

abbrev pub continuation_in : Option TaskRow → Option Plan
continuation_in None = None
continuation_in (Some row) = row.continuation

-- the plan by which a task goes on
abbrev pub continuation_of : Core → ℕ → Option Plan
continuation_of core t = continuation_in (row_of core t)

abbrev pub activation_in : Option TaskRow → Option Activation
activation_in None = None
activation_in (Some row) = row.activation

-- the plan by which a task is started
abbrev pub activation_of : Core → ℕ → Option Activation
activation_of core t = activation_in (row_of core t)

-- STARTS AND SUSPENDED TASKS

-- the priorities that are kept, from the oldest on
abbrev pub priorities : Kept → List ℕ
priorities Nothing = []
priorities (One a) = a ∷ []
priorities (Two a b) = a ∷ b ∷ []
priorities (Three a b c) = a ∷ b ∷ c ∷ []

-- the same and one more behind them, where there are fewer than three
abbrev pub and_one : Kept → ℕ → Option Kept
and_one Nothing priority = Some (One priority)
and_one (One a) priority = Some (Two a priority)
and_one (Two a b) priority = Some (Three a b priority)
and_one (Three a b c) priority = None

-- the oldest of them, and those behind it
abbrev pub oldest : Kept → Option (ℕ × Kept)
oldest Nothing = None
oldest (One a) = Some (a, Nothing)
oldest (Two a b) = Some (a, One b)
oldest (Three a b c) = Some (a, Two b c)

abbrev pub kept_in : Option TaskRow → Kept
kept_in None = Nothing
kept_in (Some row) = row.kept

-- what a task keeps
abbrev pub kept_of : Core → ℕ → Kept
kept_of core t = kept_in (row_of core t)

abbrev pub with_kept : Core → ℕ → Kept → Core
with_kept core t kept = changed_row core t (λ row. record row { kept = kept })

-- a dormant task becomes active with this priority, not suspended, and keeps these starts; that it was started is told
abbrev pub made_active : Core → ℕ → (priority : ℕ) → Kept → Core
made_active core t priority kept =
    note (changed_row core t (λ row. record row { mode = Active priority false; kept = kept })) (event.Start t priority)

-- an active task keeps the start, where it has room for it, and else that it is lost is told
abbrev pub late_by : Option Kept → Core → ℕ → Core
late_by None core t = note core (event.Overrun t)
late_by (Some kept) core t = note (with_kept core t kept) (event.Kept t (length (priorities kept)))

abbrev pub started_by : Mode → Core → ℕ → ℕ → Core
started_by Dormant core t priority = made_active core t priority Nothing
started_by (Active own suspended) core t priority = late_by (and_one (kept_of core t) priority) core t

-- a start makes a dormant task active, which keeps none then; one that is active keeps it as its last, up to three
abbrev pub started : Core → ℕ → ℕ → Core
started core t priority = started_by (mode_of core t) core t priority

-- an active task has this mark of suspension, a dormant one has none
abbrev pub marked_mode : Bool → Mode → Mode
marked_mode suspended Dormant = Dormant
marked_mode suspended (Active priority before) = Active priority suspended

abbrev pub with_mark : Core → ℕ → Bool → Core
with_mark core t suspended = with_mode core t (marked_mode suspended (mode_of core t))

-- THE TIME OF DAY

-- the milliseconds of a day
abbrev pub day : ℕ
day = 86400000

-- the time of day at a moment
abbrev pub time_at : Core → ℕ → ℕ
time_at core moment = (core.clock + moment) % day

-- the least moment from this one on at which it is this time of day
abbrev pub next_at : Core → (time moment : ℕ) → ℕ
next_at core time moment = moment + (time + (day - time_at core moment)) % day

-- SERIES

-- a length of time in milliseconds; one below 0 counts as none
abbrev pub milliseconds : ℤ → ℕ
milliseconds (pos n) = n
milliseconds (negsuc n) = 0

-- the interrupt at whose occurrences the series of a plan begin, or none
abbrev pub interrupt_of : Start → Option ℕ
interrupt_of (When interrupt) = Some interrupt
interrupt_of (WhenAfter interrupt time) = Some interrupt
interrupt_of start = None

-- how long after that their first moment comes, 0 where nothing is written
abbrev pub after_of : Start → ℕ
after_of (After time) = milliseconds time
after_of (WhenAfter interrupt time) = milliseconds time
after_of start = 0

-- the period, 0 where there is none
abbrev pub period_of : Repeat → ℕ
period_of Once = 0
period_of (All period) = milliseconds period
period_of (Until period time) = milliseconds period
period_of (During period time) = milliseconds period

abbrev pub end_of : Repeat → End
end_of (Until period time) = end.Until time
end_of (During period time) = end.During (milliseconds time)
end_of repeat = end.Never

-- a plan as it is written
abbrev pub written : Start → Repeat → Plan
written start repeat = record {
  when = interrupt_of start;
  after = after_of start;
  period = period_of repeat;
  end = end_of repeat;
  series = None;
}

-- a last moment behind all that there are
abbrev pub no_end : ℕ
no_end = 2 ^ 64 - 1

-- the last moment of a series with this first one
abbrev pub last_moment : Core → (first : ℕ) → End → ℕ
last_moment core first end.Never = no_end
last_moment core first (end.Until time) = next_at core time first
last_moment core first (end.During time) = first + time

-- the series of a plan that has this first moment
abbrev pub series_from : Core → (first : ℕ) → Plan → Series
series_from core first plan = record { first = first; period = plan.period; last = last_moment core first plan.end }

-- the series that begins now
abbrev pub begin_series : Core → Plan → Series
begin_series core plan = series_from core (core.moment + plan.after) plan

-- the same plan with a series that begins now
abbrev pub begun : Core → Plan → Plan
begun core plan = record plan { series = Some (begin_series core plan) }

-- whether a plan waits for this interrupt
abbrev pub waits_for : ℕ → Option ℕ → Bool
waits_for interrupt None = false
waits_for interrupt (Some other) = nat_eq interrupt other

-- the first moment of the series that a plan has at its making: a time of day that is written, or else after its time
abbrev pub first_moment : Core → Start → ℕ
first_moment core (At time) = next_at core time core.moment
first_moment core start = core.moment + after_of start

-- that series begins at once, but where the plan waits for an interrupt
abbrev pub first_series : Core → Start → Repeat → Option Series
first_series core (When interrupt) repeat = None
first_series core (WhenAfter interrupt time) repeat = None
first_series core start repeat = Some (series_from core (first_moment core start) (written start repeat))

-- a plan that is made now
abbrev pub planned : Core → Start → Repeat → Plan
planned core start repeat = record (written start repeat) { series = first_series core start repeat }

-- PLANS THAT SERVE

abbrev pub serves_if : Core → Option Plan → Bool
serves_if core None = false
serves_if core (Some plan) = fires_if plan.series core.moment

-- a task goes on by its plan, which is gone then
abbrev pub continued : Core → ℕ → Core
continued core t = with_continuation (with_mark core t false) t None

-- the task goes on, where the series of its plan fires now
abbrev pub serve_continuation : Core → ℕ → Core
serve_continuation core t = if serves_if core (continuation_of core t) then continued core t else core

abbrev pub serve_activation_by : Option Activation → Core → ℕ → Core
serve_activation_by None core t = core
serve_activation_by (Some activation) core t =
    if serves_if core (Some activation.plan) then started core t activation.priority else core

-- the task is started, where the series of its plan fires now
abbrev pub serve_activation : Core → ℕ → Core
serve_activation core t = serve_activation_by (activation_of core t) core t

-- a new plan takes the place of the old one, and serves at once where its series fires now
abbrev pub plan_continuation : Core → ℕ → Plan → Core
plan_continuation core t plan = serve_continuation (with_continuation core t (Some plan)) t

abbrev pub plan_activation : Core → ℕ → Activation → Core
plan_activation core t activation = serve_activation (with_activation core t (Some activation)) t

-- MILLISECONDS

-- each of the first n tasks, in order of declaration
abbrev pub each_task : (Core → ℕ → Core) → (n : ℕ) → Core → Core
each_task change zero core = core
each_task change (suc n) core = change (each_task change n core) n

-- the plans of a task that fire now serve
abbrev pub served : Core → ℕ → Core
served core t = serve_activation (serve_continuation core t) t

-- a millisecond passes
abbrev pub millisecond : Core → Core
millisecond core = each_task served (length core.tasks) (record core { moment = core.moment + 1 })

-- INTERRUPTS

abbrev pub begin_continuation : ℕ → Option Plan → Core → ℕ → Core
begin_continuation interrupt None core t = core
begin_continuation interrupt (Some plan) core t =
    if waits_for interrupt plan.when then plan_continuation core t (begun core plan) else core

abbrev pub begin_activation : ℕ → Option Activation → Core → ℕ → Core
begin_activation interrupt None core t = core
begin_activation interrupt (Some activation) core t =
    if waits_for interrupt activation.plan.when
    then plan_activation core t (record activation { plan = begun core activation.plan }) else core

-- the continuation of a task that waits for this interrupt begins
abbrev pub continuation_began : ℕ → Core → ℕ → Core
continuation_began interrupt core t = begin_continuation interrupt (continuation_of core t) core t

-- and then its activation
abbrev pub reached : ℕ → Core → ℕ → Core
reached interrupt core t =
    let after = continuation_began interrupt core t in begin_activation interrupt (activation_of after t) after t

-- an interrupt that is let through reaches the tasks
abbrev pub occurred : Core → ℕ → Core
occurred core interrupt = each_task (reached interrupt) (length core.tasks) core
