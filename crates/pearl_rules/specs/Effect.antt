-- What an action does to the core, what its task hears, and which tasks end.
use Rattle.std.specs.Prelude.{ℕ, List, [], ◌∷◌, Bool, true, false, Option, Some, None, nat_lt, nat_eq, slice_set, if◌then◌else◌}
use Rattle.pearl_value.specs.declared.cell.Cell.{Cell}
use Rattle.pearl_value.specs.declared.cell.Cell.TheVariants.{Bits, Clock}
use Rattle.pearl_value.specs.declared.trap.Trap.TheVariants.{SemaLimit, Format}
use Rattle.pearl_rules.specs.declared.action.Action.{Action}
use Rattle.pearl_rules.specs.declared.action.Action.TheVariants as action
use Rattle.pearl_rules.specs.declared.action.Start.{Start}
use Rattle.pearl_rules.specs.declared.action.Start.TheVariants.{Free}
use Rattle.pearl_rules.specs.declared.action.Repeat.{Repeat}
use Rattle.pearl_rules.specs.declared.action.Repeat.TheVariants.{Once}
use Rattle.pearl_rules.specs.declared.action.Answer.{Answer}
use Rattle.pearl_rules.specs.declared.action.Answer.TheVariants.{Nothing, One, Many}
use Rattle.pearl_rules.specs.declared.event.Event.{Event}
use Rattle.pearl_rules.specs.declared.event.Event.TheVariants as event
use Rattle.pearl_rules.specs.declared.row.Mode.{Mode}
use Rattle.pearl_rules.specs.declared.row.Mode.TheVariants.{Dormant, Active}
use Rattle.pearl_rules.specs.declared.row.Kept.{Kept}
use Rattle.pearl_rules.specs.declared.row.Kept.TheVariants as kept
use Rattle.pearl_rules.specs.declared.row.TaskRow.{TaskRow}
use Rattle.pearl_rules.specs.Core.{Core, Switch, value_at, note, row_of, mode_of, is_active}
use Rattle.pearl_rules.specs.Counts.{count_at, all_below_most, lowered, raised}
use Rattle.pearl_rules.specs.Plans.{changed_row, oldest, kept_of, made_active, started, with_mark, time_at, planned, plan_continuation, plan_activation}
use Rattle.pearl_rules.specs.Devices.{with_channel, interrupted, items_of, bytes_at, without_bytes, values_at, without_value}
use Rattle.pearl_rules.specs.Scan.{Scanned, Short, Bad, Got, scan}

-- what the task has of its action: an answer, or its end
pub data Reply : Type 0 where
  Hears : (answer : Answer) → Reply
  Ends : Reply

-- `ended` has each task that ended: what is kept of it begins afresh, also where it is active again after the action
pub record Effect : Type 0 where
  pub core : Core
  pub reply : Reply
  pub ended : List ℕ

-- the task becomes dormant, keeps nothing and goes on by no plan; the plan by which it is started stays
abbrev pub finished : Core → ℕ → Core
finished core t = changed_row core t (λ row. record row { mode = Dormant; kept = kept.Nothing; continuation = None })

abbrev pub again_by : Option (ℕ × Kept) → Core → ℕ → Core
again_by None core t = core
again_by (Some (first, others)) core t = made_active core t first others

-- the task, which is dormant, is started with the oldest of these, if there is one, and keeps the others
abbrev pub again : Kept → Core → ℕ → Core
again kept core t = again_by (oldest kept) core t

-- the task ends, which is told, and is started again where it kept a start
abbrev pub ended_with : Core → ℕ → Event → Core
ended_with core t told = again (kept_of core t) (note (finished core t) told) t

-- the task goes on with this answer
abbrev pub answering : Core → Answer → Effect
answering core answer = record { core = core; reply = Hears answer; ended = [] }

-- the task ends, and this event tells it
abbrev pub ending : Core → ℕ → Event → Effect
ending core t told = record { core = ended_with core t told; reply = Ends; ended = t ∷ [] }

-- STARTS

abbrev pub declared_or_zero : Option TaskRow → ℕ
declared_or_zero None = 0
declared_or_zero (Some row) = row.declared

-- the priority of a start: the one that it names, or the task's declared one
abbrev pub priority_or_declared : Core → ℕ → Option ℕ → ℕ
priority_or_declared core t None = declared_or_zero (row_of core t)
priority_or_declared core t (Some priority) = priority

abbrev pub is_at_once : Start → Repeat → Bool
is_at_once Free Once = true
is_at_once start repeat = false

-- a start that is written with a condition or with ALL is a plan, in place of the one that the task has; else it is now
abbrev pub activated : Core → ℕ → Start → Repeat → (priority : ℕ) → Core
activated core t start repeat priority =
    if is_at_once start repeat then started core t priority
    else plan_activation core t (record { plan = planned core start repeat; priority = priority })

-- TASKS THAT GO ON

-- a suspended task goes on, now or by a plan; no plan is made for a dormant task
abbrev pub continues : Core → ℕ → Start → Core
continues core t start =
    if is_at_once start Once then with_mark core t false
    else (if is_active core t then plan_continuation core t (planned core start Once) else core)

-- a task suspends itself, and goes on by a plan
abbrev pub resuming : Core → (own : ℕ) → Start → Core
resuming core own start = plan_continuation (with_mark core own true) own (planned core start Once)

-- both plans of a task are gone, and all starts that it kept
abbrev pub prevented : Core → ℕ → Core
prevented core t = changed_row core t (λ row. record row { kept = kept.Nothing; continuation = None; activation = None })

-- ENDS FROM OUTSIDE

abbrev pub stopped_by : Mode → Core → ℕ → Core
stopped_by Dormant core t = core
stopped_by (Active priority suspended) core t = ended_with core t (event.Stop t)

abbrev pub stopped_tasks : Mode → ℕ → List ℕ
stopped_tasks Dormant t = []
stopped_tasks (Active priority suspended) t = t ∷ []

abbrev pub reply_if_other : (is_own : Bool) → Reply
reply_if_other true = Ends
reply_if_other false = Hears Nothing

-- an active task ends, and is told to have stopped; it is started again where it kept a start. A task that stops itself hears
-- nothing more
abbrev pub stopping : Core → (own t : ℕ) → Effect
stopping core own t = record {
  core = stopped_by (mode_of core t) core t;
  reply = reply_if_other (nat_eq t own);
  ended = stopped_tasks (mode_of core t) t;
}

-- SEMAPHORES

-- all are raised, or where one stands at the greatest count none is, and the task is broken off
abbrev pub releasing : Core → ℕ → List ℕ → (can_raise : Bool) → Effect
releasing core own semaphores true = answering (record core { counts = raised core.counts semaphores }) Nothing
releasing core own semaphores false = ending core own (event.Trap own SemaLimit)

-- the count is lowered where it is above 0, and the answer tells whether it was
abbrev pub trying : Core → ℕ → (is_free : Bool) → Effect
trying core semaphore true = answering (record core { counts = lowered core.counts (semaphore ∷ []) }) (One (Bits 1 1))
trying core semaphore false = answering core (One (Bits 1 0))

-- TERMINALS AND INPUTS

-- an action that can't be done yet isn't done; if it were, its task would end
abbrev pub undone : Core → ℕ → Effect
undone core own = ending core own (event.End own)

-- the values that were read are answered and their bytes are gone; a bad field's bytes are gone as well, and the task is broken off
abbrev pub getting : Core → (own device : ℕ) → Scanned → Effect
getting core own device Short = undone core own
getting core own device (Bad used) = ending (without_bytes core device used) own (event.Trap own Format)
getting core own device (Got used values) = answering (without_bytes core device used) (Many (record { items = values }))

-- the oldest value is answered, and is gone
abbrev pub taking : Core → (own device : ℕ) → List Cell → Effect
taking core own device [] = undone core own
taking core own device (x ∷ later) = answering (without_value core device) (One x)

-- One row for each action of the task `own`, which is the one that acted last. A turn and an entry change nothing.
abbrev pub effect_of : Core → (own : ℕ) → Action → Effect
effect_of core own (action.Read slot) = answering core (One (value_at core.slots slot))
effect_of core own (action.Write slot value) = answering (record core { slots = slice_set core.slots slot value }) Nothing
effect_of core own action.Turn = answering core Nothing
effect_of core own action.Enter = answering core Nothing
effect_of core own action.Now = answering core (One (Clock (time_at core core.moment)))
effect_of core own (action.Request semaphores) = answering (record core { counts = lowered core.counts semaphores.items }) Nothing
effect_of core own (action.Release semaphores) = releasing core own semaphores.items (all_below_most core.counts semaphores.items)
effect_of core own (action.Try semaphore) = trying core semaphore (nat_lt 0 (count_at core.counts semaphore))
effect_of core own (action.Activate t start repeat priority) =
    answering (activated core t start repeat (priority_or_declared core t priority)) Nothing
effect_of core own (action.Continue t start) = answering (continues core t start) Nothing
effect_of core own (action.Resume start) = answering (resuming core own start) Nothing
effect_of core own (action.Suspend t) = answering (with_mark core t true) Nothing
effect_of core own (action.Terminate t) = stopping core own t
effect_of core own (action.Prevent t) = answering (prevented core t) Nothing
effect_of core own (action.Enable device) = answering (with_channel core device (Switch true)) Nothing
effect_of core own (action.Disable device) = answering (with_channel core device (Switch false)) Nothing
effect_of core own (action.Trigger device) = answering (interrupted core device) Nothing
effect_of core own (action.Put device text) = answering (note core (event.Out device text)) Nothing
effect_of core own (action.Get device format kinds) =
    getting core own device (scan (items_of core format) kinds.items (bytes_at core device))
effect_of core own (action.Take device) = taking core own device (values_at core device)
effect_of core own (action.Send device value) = answering (note core (event.Send device value)) Nothing
effect_of core own action.End = ending core own (event.End own)
effect_of core own (action.Trap trap) = ending core own (event.Trap own trap)

-- what the action of the task `own` does
unfoldable pub effect : Core → (own : ℕ) → Action → Effect
effect core own action = effect_of (record core { last = Some own }) own action
