-- What was told before changes nothing.
use Rattle.std.proofs.Common.{◌≡◌, ℕ, zero, suc, ◌+◌, List, [], ◌∷◌, ◌++◌, Bool, true, false, ◌&&◌, nat_eq, nat_lt, nat_le, if◌then◌else◌, Option, Some, None, Result, Ok, Err, length, refl, ap, ap₂, ◌∙◌, append_assoc}
use Rattle.pearl_value.specs.declared.cell.Cell.{Cell}
use Rattle.pearl_value.specs.declared.kind.Kind.{Kind}
use Rattle.pearl_value.specs.declared.trap.Trap.{Trap}
use Rattle.pearl_value.specs.declared.trap.Trap.TheVariants.{SemaLimit, Format}
use Rattle.pearl_value.specs.Conversions.{converted}
use Rattle.pearl_rules.specs.declared.series.Series.{Series}
use Rattle.pearl_rules.specs.declared.action.Action.{Action}
use Rattle.pearl_rules.specs.declared.action.Action.TheVariants as action
use Rattle.pearl_rules.specs.declared.action.Start.{Start}
use Rattle.pearl_rules.specs.declared.action.Start.TheVariants.{Free, At, After, When, WhenAfter}
use Rattle.pearl_rules.specs.declared.action.Repeat.{Repeat}
use Rattle.pearl_rules.specs.declared.action.Repeat.TheVariants.{Once}
use Rattle.pearl_rules.specs.declared.action.Answer.{Answer}
use Rattle.pearl_rules.specs.declared.action.Answer.TheVariants.{Nothing, One}
use Rattle.pearl_rules.specs.declared.entry.Entry.{Entry}
use Rattle.pearl_rules.specs.declared.entry.Entry.TheVariants as entry
use Rattle.pearl_rules.specs.declared.event.Event.{Event}
use Rattle.pearl_rules.specs.declared.event.Event.TheVariants as event
use Rattle.pearl_rules.specs.declared.row.Kept.{Kept}
use Rattle.pearl_rules.specs.declared.row.Kept.TheVariants as kept
use Rattle.pearl_rules.specs.declared.row.Mode.{Mode}
use Rattle.pearl_rules.specs.declared.row.Mode.TheVariants.{Dormant, Active}
use Rattle.pearl_rules.specs.declared.row.End.{End}
use Rattle.pearl_rules.specs.declared.row.End.TheVariants as end
use Rattle.pearl_rules.specs.declared.row.Plan.{Plan}
use Rattle.pearl_rules.specs.declared.row.Activation.{Activation}
use Rattle.pearl_rules.specs.declared.row.TaskRow.{TaskRow}
use Rattle.pearl_rules.specs.Core.{Core, Channel, Switch, Bytes, Values, Outward, Report, Happened, note, row_of, with_row, mode_of, is_active, told_before}
use Rattle.pearl_rules.specs.Counts.{count_at, all_below_most}
use Rattle.pearl_rules.specs.Plans.{on_row, changed_row, priorities, and_one, oldest, kept_of, with_kept, made_active, late_by, with_mode, with_continuation, with_activation, continuation_of, activation_of, started_by, started, marked_mode, with_mark, written, first_moment, last_moment, series_from, waits_for, first_series, planned, begun, serves_if, continued, serve_continuation, serve_activation_by, serve_activation, plan_continuation, plan_activation, each_task, served, millisecond, begin_continuation, begin_activation, continuation_began, reached, occurred}
use Rattle.pearl_rules.specs.Devices.{channel_of, with_channel, is_enabled, interrupted, items_of, bytes_at, terminal_room, with_bytes, without_bytes, values_at, input_room, joined, with_value_by, with_value, without_value_by, without_value, arrived}
use Rattle.pearl_rules.specs.Scan.{Scanned, Short, Bad, Got, scan}
use Rattle.pearl_rules.specs.Effect.{Reply, Ends, Effect, effect, finished, again_by, ended_with, answering, ending, priority_or_declared, is_at_once, activated, continues, resuming, prevented, stopped_by, stopped_tasks, reply_if_other, stopping, releasing, trying, getting, taking}
use Rattle.pearl_rules.specs.Pick.{Offered, pick, last_if, is_as_urgent, can_turn, turned, shown_of, states, showing, is_ready_row}
use Rattle.pearl_rules.specs.Laws.{effect_told_before}
use Rattle.pearl_rules.proofs.PickLaws.{pick-offers, states-offers, possible-same}

module _ (before : List (ℕ × Report)) where
  -- the same core, with this told before
  abbrev later : Core → Core
  later core = told_before before core

  -- ROWS AND STARTS

  -- an event comes after what was told
  note-told : (core : Core) (e : Event) → note (later core) e ≡ later (note core e)
  note-told core e = ap (λ told. let c : Core = record core { told = told } in c) (append_assoc before core.told ((core.moment, Happened e) ∷ []))

  -- one of two cores
  either-told : (test : Bool) (core other after others : Core) → after ≡ later core → others ≡ later other →
      (if test then after else others) ≡ later (if test then core else other)
  either-told true core other after others same also = same
  either-told false core other after others same also = also

  -- a task's row
  row-told : (core : Core) (t : ℕ) (change : TaskRow → TaskRow) → changed_row (later core) t change ≡ later (changed_row core t change)
  row-told core t change = by_row (row_of core t)
    where
      by_row : (row : Option TaskRow) → on_row row (later core) (λ r. with_row (later core) t (change r)) ≡ later (on_row row core (λ r. with_row core t (change r)))
      by_row None = refl
      by_row (Some row) = refl

  -- a task's mode
  mode-told : (core : Core) (t : ℕ) (mode : Mode) → with_mode (later core) t mode ≡ later (with_mode core t mode)
  mode-told core t mode = row-told core t (λ row. record row { mode = mode })

  -- a dormant task becomes active
  made_active-told : (core : Core) (t priority : ℕ) (held : Kept) → made_active (later core) t priority held ≡ later (made_active core t priority held)
  made_active-told core t priority held =
      ap (λ c. note c (event.Start t priority)) (row-told core t (λ row. record row { mode = Active priority false; kept = held }))
      ∙ note-told (changed_row core t (λ row. record row { mode = Active priority false; kept = held })) (event.Start t priority)

  -- a start of an active task
  late-told : (core : Core) (t : ℕ) (more : Option Kept) → late_by more (later core) t ≡ later (late_by more core t)
  late-told core t None = note-told core (event.Overrun t)
  late-told core t (Some held) =
      ap (λ c. note c (event.Kept t (length (priorities held)))) (row-told core t (λ row. record row { kept = held }))
      ∙ note-told (with_kept core t held) (event.Kept t (length (priorities held)))

  -- a start
  started-told : (core : Core) (t priority : ℕ) → started (later core) t priority ≡ later (started core t priority)
  started-told core t priority = by_mode (mode_of core t)
    where
      by_mode : (mode : Mode) → started_by mode (later core) t priority ≡ later (started_by mode core t priority)
      by_mode Dormant = made_active-told core t priority kept.Nothing
      by_mode (Active own suspended) = late-told core t (and_one (kept_of core t) priority)

  -- a mark of suspension
  mark-told : (core : Core) (t : ℕ) (suspended : Bool) → with_mark (later core) t suspended ≡ later (with_mark core t suspended)
  mark-told core t suspended = mode-told core t (marked_mode suspended (mode_of core t))

  -- PLANS

  last_moment-told : (core : Core) (first : ℕ) (e : End) → last_moment (later core) first e ≡ last_moment core first e
  last_moment-told core first end.Never = refl
  last_moment-told core first (end.Until time) = refl
  last_moment-told core first (end.During time) = refl

  series-told : (core : Core) (first : ℕ) (plan : Plan) →
      series_from (later core) first plan ≡ series_from core first plan
  series-told core first plan =
      ap (λ last. let s : Series = record { first = first; period = plan.period; last = last } in s)
      (last_moment-told core first plan.end)

  first_series-told : (core : Core) (start : Start) (repeat : Repeat) → first_series (later core) start repeat ≡ first_series core start repeat
  first_series-told core Free repeat = ap Some (series-told core (first_moment core Free) (written Free repeat))
  first_series-told core (At time) repeat = ap Some
      (series-told core (first_moment core (At time)) (written (At time) repeat))
  first_series-told core (After time) repeat = ap Some
      (series-told core (first_moment core (After time)) (written (After time) repeat))
  first_series-told core (When interrupt) repeat = refl
  first_series-told core (WhenAfter interrupt time) repeat = refl

  planned-told : (core : Core) (start : Start) (repeat : Repeat) → planned (later core) start repeat ≡ planned core start repeat
  planned-told core start repeat =
      ap (λ series. let p : Plan = record (written start repeat) { series = series } in p)
      (first_series-told core start repeat)

  begun-told : (core : Core) (plan : Plan) → begun (later core) plan ≡ begun core plan
  begun-told core plan =
      ap (λ series. let p : Plan = record plan { series = Some series } in p)
      (series-told core (core.moment + plan.after) plan)

  serves-told : (core : Core) (plan : Option Plan) → serves_if (later core) plan ≡ serves_if core plan
  serves-told core None = refl
  serves-told core (Some plan) = refl

  continued-told : (core : Core) (t : ℕ) → continued (later core) t ≡ later (continued core t)
  continued-told core t =
      ap (λ c. with_continuation c t None) (mark-told core t false) ∙ row-told (with_mark core t false) t (λ row. record row { continuation = None })

  serve_continuation-told : (core : Core) (t : ℕ) → serve_continuation (later core) t ≡ later (serve_continuation core t)
  serve_continuation-told core t =
      ap (λ test. if test then continued (later core) t else later core) (serves-told core (continuation_of core t))
      ∙ either-told (serves_if core (continuation_of core t)) (continued core t) core (continued (later core) t) (later core) (continued-told core t) refl

  serve_activation-told : (core : Core) (t : ℕ) → serve_activation (later core) t ≡ later (serve_activation core t)
  serve_activation-told core t = by_plan (activation_of core t)
    where
      by_plan : (plan : Option Activation) → serve_activation_by plan (later core) t ≡ later (serve_activation_by plan core t)
      by_plan None = refl
      by_plan (Some plan) =
          either-told (serves_if core (Some plan.plan)) (started core t plan.priority) core (started (later core) t plan.priority) (later core)
          (started-told core t plan.priority) refl

  plan_continuation-told : (core : Core) (t : ℕ) (plan : Plan) → plan_continuation (later core) t plan ≡ later (plan_continuation core t plan)
  plan_continuation-told core t plan =
      ap (λ c. serve_continuation c t) (row-told core t (λ row. record row { continuation = Some plan }))
      ∙ serve_continuation-told (with_continuation core t (Some plan)) t

  plan_activation-told : (core : Core) (t : ℕ) (plan : Activation) → plan_activation (later core) t plan ≡ later (plan_activation core t plan)
  plan_activation-told core t plan =
      ap (λ c. serve_activation c t) (row-told core t (λ row. record row { activation = Some plan }))
      ∙ serve_activation-told (with_activation core t (Some plan)) t

  -- MILLISECONDS AND INTERRUPTS

  each-told : (change : Core → ℕ → Core) → ((core : Core) (t : ℕ) → change (later core) t ≡ later (change core t)) → (n : ℕ) (core : Core) →
      each_task change n (later core) ≡ later (each_task change n core)
  each-told change same zero core = refl
  each-told change same (suc n) core = ap (λ c. change c n) (each-told change same n core) ∙ same (each_task change n core) n

  served-told : (core : Core) (t : ℕ) → served (later core) t ≡ later (served core t)
  served-told core t = ap (λ c. serve_activation c t) (serve_continuation-told core t) ∙ serve_activation-told (serve_continuation core t) t

  -- a millisecond
  pub millisecond-told_before : (core : Core) → millisecond (told_before before core) ≡ told_before before (millisecond core)
  millisecond-told_before core = each-told served served-told (length core.tasks) (record core { moment = core.moment + 1 })

  continuation_began-told : (interrupt : ℕ) (core : Core) (t : ℕ) → continuation_began interrupt (later core) t ≡ later (continuation_began interrupt core t)
  continuation_began-told interrupt core t = by_plan (continuation_of core t)
    where
      by_plan : (plan : Option Plan) → begin_continuation interrupt plan (later core) t ≡ later (begin_continuation interrupt plan core t)
      by_plan None = refl
      by_plan (Some plan) =
          either-told (waits_for interrupt plan.when) (plan_continuation core t (begun core plan)) core
          (plan_continuation (later core) t (begun (later core) plan)) (later core)
          (ap (λ p. plan_continuation (later core) t p) (begun-told core plan) ∙ plan_continuation-told core t (begun core plan)) refl

  activation_began-told : (interrupt : ℕ) (core : Core) (t : ℕ) →
      begin_activation interrupt (activation_of core t) (later core) t ≡ later (begin_activation interrupt (activation_of core t) core t)
  activation_began-told interrupt core t = by_plan (activation_of core t)
    where
      by_plan : (plan : Option Activation) → begin_activation interrupt plan (later core) t ≡ later (begin_activation interrupt plan core t)
      by_plan None = refl
      by_plan (Some plan) =
          either-told (waits_for interrupt plan.plan.when)
          (plan_activation core t (record plan { plan = begun core plan.plan })) core
          (plan_activation (later core) t (record plan { plan = begun (later core) plan.plan })) (later core)
          (ap (λ p. plan_activation (later core) t (record plan { plan = p })) (begun-told core plan.plan)
          ∙ plan_activation-told core t (record plan { plan = begun core plan.plan })) refl

  reached-told : (interrupt : ℕ) (core : Core) (t : ℕ) → reached interrupt (later core) t ≡ later (reached interrupt core t)
  reached-told interrupt core t =
      ap (λ c. begin_activation interrupt (activation_of c t) c t) (continuation_began-told interrupt core t)
      ∙ activation_began-told interrupt (continuation_began interrupt core t) t

  occurred-told : (core : Core) (interrupt : ℕ) → occurred (later core) interrupt ≡ later (occurred core interrupt)
  occurred-told core interrupt = each-told (reached interrupt) (reached-told interrupt) (length core.tasks) core

  interrupted-told : (core : Core) (device : ℕ) → interrupted (later core) device ≡ later (interrupted core device)
  interrupted-told core device =
      either-told (is_enabled core device) (occurred core device) (note core (event.Masked device)) (occurred (later core) device)
      (note (later core) (event.Masked device)) (occurred-told core device) (note-told core (event.Masked device))

  -- WHAT COMES IN

  bytes-told : (core : Core) (device : ℕ) (text : List ℕ) → with_bytes (later core) device text ≡ later (with_bytes core device text)
  bytes-told core device text =
      either-told (nat_le (length (bytes_at core device ++ text)) terminal_room) (with_channel core device (Bytes (bytes_at core device ++ text)))
      (note core (event.Lost device)) (with_channel (later core) device (Bytes (bytes_at core device ++ text))) (note (later core) (event.Lost device))
      refl (note-told core (event.Lost device))

  joined-told : (core : Core) (device : ℕ) (kind : Kind) (pending : List Cell) (value : Result Cell Trap) →
      joined (later core) device kind pending value ≡ later (joined core device kind pending value)
  joined-told core device kind pending (Err trap) = refl
  joined-told core device kind pending (Ok x) = refl

  value-told : (core : Core) (device : ℕ) (x : Cell) → with_value (later core) device x ≡ later (with_value core device x)
  value-told core device x = by_channel (channel_of core device)
    where
      by_channel : (channel : Option Channel) → with_value_by channel (later core) device x ≡ later (with_value_by channel core device x)
      by_channel None = refl
      by_channel (Some (Switch enabled)) = refl
      by_channel (Some (Bytes pending)) = refl
      by_channel (Some Outward) = refl
      by_channel (Some (Values kind pending)) =
          either-told (nat_lt (length pending) input_room) (joined core device kind pending (converted x kind)) (note core (event.Lost device))
          (joined (later core) device kind pending (converted x kind)) (note (later core) (event.Lost device))
          (joined-told core device kind pending (converted x kind)) (note-told core (event.Lost device))

  without_value-told : (core : Core) (device : ℕ) → without_value (later core) device ≡ later (without_value core device)
  without_value-told core device = by_channel (channel_of core device)
    where
      by_channel : (channel : Option Channel) → without_value_by channel (later core) device ≡ later (without_value_by channel core device)
      by_channel None = refl
      by_channel (Some (Switch enabled)) = refl
      by_channel (Some (Bytes pending)) = refl
      by_channel (Some Outward) = refl
      by_channel (Some (Values kind pending)) = refl

  -- an entry
  pub arrived-told_before : (core : Core) (come : Entry) → arrived (told_before before core) come ≡ told_before before (arrived core come)
  arrived-told_before core (entry.Clock time) = refl
  arrived-told_before core (entry.Irpt device) = interrupted-told core device
  arrived-told_before core (entry.Chars device text) = bytes-told core device text.items
  arrived-told_before core (entry.Line device text) = bytes-told core device (text.items ++ 10 ∷ [])
  arrived-told_before core (entry.Value device x) = value-told core device x
  arrived-told_before core other = refl

  -- ACTIONS

  -- an end, behind which the task may be started
  again-told : (next : Option (ℕ × Kept)) (core : Core) (t : ℕ) → again_by next (later core) t ≡ later (again_by next core t)
  again-told None core t = refl
  again-told (Some (first, others)) core t = made_active-told core t first others

  ended-told : (core : Core) (t : ℕ) (e : Event) → ended_with (later core) t e ≡ later (ended_with core t e)
  ended-told core t e =
      ap (λ c. again_by (oldest (kept_of core t)) c t)
      (ap (λ c. note c e) (row-told core t (λ row. record row { mode = Dormant; kept = kept.Nothing; continuation = None }))
      ∙ note-told (finished core t) e)
      ∙ again-told (oldest (kept_of core t)) (note (finished core t) e) t

  ending-told : (core : Core) (own : ℕ) (e : Event) → ending (later core) own e ≡ effect_told_before before (ending core own e)
  ending-told core own e =
      ap (λ c. let done : Effect = record { core = c; reply = Ends; ended = own ∷ [] } in done) (ended-told core own e)

  -- an end from outside
  stopping-told : (core : Core) (own t : ℕ) → stopping (later core) own t ≡ effect_told_before before (stopping core own t)
  stopping-told core own t = by_mode (mode_of core t) (reply_if_other (nat_eq t own))
    where
      of : Core → Reply → List ℕ → Effect
      of c reply ended = record { core = c; reply = reply; ended = ended }

      by_mode : (mode : Mode) (reply : Reply) → of (stopped_by mode (later core) t) reply (stopped_tasks mode t)
          ≡ effect_told_before before (of (stopped_by mode core t) reply (stopped_tasks mode t))
      by_mode Dormant reply = refl
      by_mode (Active priority suspended) reply = ap (λ c. of c reply (t ∷ [])) (ended-told core t (event.Stop t))

  -- a release
  releasing-told : (core : Core) (own : ℕ) (semaphores : List ℕ) (can_raise : Bool) →
      releasing (later core) own semaphores can_raise ≡ effect_told_before before (releasing core own semaphores can_raise)
  releasing-told core own semaphores true = refl
  releasing-told core own semaphores false = ending-told core own (event.Trap own SemaLimit)

  -- a try
  trying-told : (core : Core) (semaphore : ℕ) (is_free : Bool) → trying (later core) semaphore is_free ≡ effect_told_before before (trying core semaphore is_free)
  trying-told core semaphore true = refl
  trying-told core semaphore false = refl

  -- what is read from a terminal
  getting-told : (core : Core) (own device : ℕ) (scanned : Scanned) →
      getting (later core) own device scanned ≡ effect_told_before before (getting core own device scanned)
  getting-told core own device Short = ending-told core own (event.End own)
  getting-told core own device (Bad used) = ending-told (without_bytes core device used) own (event.Trap own Format)
  getting-told core own device (Got used values) = refl

  -- an answer
  answering-told : (core other : Core) (answer : Answer) → other ≡ later core → answering other answer ≡ effect_told_before before (answering core answer)
  answering-told core other answer e = ap (λ c. answering c answer) e

  -- what is taken from an input
  taking-told : (core : Core) (own device : ℕ) (values : List Cell) → taking (later core) own device values ≡ effect_told_before before (taking core own device values)
  taking-told core own device [] = ending-told core own (event.End own)
  taking-told core own device (x ∷ values) =
      answering-told (without_value core device) (without_value (later core) device) (One x) (without_value-told core device)

  -- starts, and tasks that go on
  activated-told : (core : Core) (t : ℕ) (start : Start) (repeat : Repeat) (priority : ℕ) →
      activated (later core) t start repeat priority ≡ later (activated core t start repeat priority)
  activated-told core t start repeat priority =
      either-told (is_at_once start repeat) (started core t priority)
      (plan_activation core t (record { plan = planned core start repeat; priority = priority })) (started (later core) t priority)
      (plan_activation (later core) t (record { plan = planned (later core) start repeat; priority = priority })) (started-told core t priority)
      (ap (λ p. plan_activation (later core) t (record { plan = p; priority = priority })) (planned-told core start repeat)
      ∙ plan_activation-told core t (record { plan = planned core start repeat; priority = priority }))

  going-told : (core : Core) (t : ℕ) (start : Start) →
      plan_continuation (later core) t (planned (later core) start Once) ≡ later (plan_continuation core t (planned core start Once))
  going-told core t start =
      ap (λ p. plan_continuation (later core) t p) (planned-told core start Once) ∙ plan_continuation-told core t (planned core start Once)

  continues-told : (core : Core) (t : ℕ) (start : Start) → continues (later core) t start ≡ later (continues core t start)
  continues-told core t start =
      either-told (is_at_once start Once) (with_mark core t false)
      (if is_active core t then plan_continuation core t (planned core start Once) else core) (with_mark (later core) t false)
      (if is_active core t then plan_continuation (later core) t (planned (later core) start Once) else later core) (mark-told core t false)
      (either-told (is_active core t) (plan_continuation core t (planned core start Once)) core
      (plan_continuation (later core) t (planned (later core) start Once)) (later core) (going-told core t start) refl)

  resuming-told : (core : Core) (own : ℕ) (start : Start) → resuming (later core) own start ≡ later (resuming core own start)
  resuming-told core own start =
      ap₂ (λ c p. plan_continuation c own p) (mark-told core own true) (planned-told core start Once)
      ∙ plan_continuation-told (with_mark core own true) own (planned core start Once)

  -- the priority of a start
  priority-told : (core : Core) (t : ℕ) (priority : Option ℕ) → priority_or_declared (later core) t priority ≡ priority_or_declared core t priority
  priority-told core t None = refl
  priority-told core t (Some priority) = refl

  -- every action
  pub effect-told_before : (core : Core) (own : ℕ) (action : Action) →
      effect (told_before before core) own action ≡ effect_told_before before (effect core own action)
  unfolding effect
  effect-told_before core own (action.Read slot) = refl
  effect-told_before core own (action.Write slot value) = refl
  effect-told_before core own action.Turn = refl
  effect-told_before core own action.Enter = refl
  effect-told_before core own action.Now = refl
  effect-told_before core own (action.Request list) = refl
  effect-told_before core own (action.Release list) =
      releasing-told (record core { last = Some own }) own list.items (all_below_most core.counts list.items)
  effect-told_before core own (action.Try s) = trying-told (record core { last = Some own }) s (nat_lt 0 (count_at core.counts s))
  effect-told_before core own (action.Activate t start repeat priority) =
      let acted : Core = record core { last = Some own } in
      answering-told (activated acted t start repeat (priority_or_declared acted t priority)) _ Nothing
      (ap (λ p. activated (later acted) t start repeat p) (priority-told acted t priority)
      ∙ activated-told acted t start repeat (priority_or_declared acted t priority))
  effect-told_before core own (action.Continue t start) =
      answering-told (continues (record core { last = Some own }) t start) _ Nothing (continues-told (record core { last = Some own }) t start)
  effect-told_before core own (action.Resume start) =
      answering-told (resuming (record core { last = Some own }) own start) _ Nothing (resuming-told (record core { last = Some own }) own start)
  effect-told_before core own (action.Suspend t) =
      answering-told (with_mark (record core { last = Some own }) t true) _ Nothing (mark-told (record core { last = Some own }) t true)
  effect-told_before core own (action.Terminate t) = stopping-told (record core { last = Some own }) own t
  effect-told_before core own (action.Prevent t) =
      answering-told (prevented (record core { last = Some own }) t) _ Nothing
      (row-told (record core { last = Some own }) t (λ row. record row { kept = kept.Nothing; continuation = None; activation = None }))
  effect-told_before core own (action.Enable device) = refl
  effect-told_before core own (action.Disable device) = refl
  effect-told_before core own (action.Trigger device) =
      answering-told (interrupted (record core { last = Some own }) device) _ Nothing (interrupted-told (record core { last = Some own }) device)
  effect-told_before core own (action.Put device text) =
      answering-told (note (record core { last = Some own }) (event.Out device text)) _ Nothing
      (note-told (record core { last = Some own }) (event.Out device text))
  effect-told_before core own (action.Get device format kinds) =
      getting-told (record core { last = Some own }) own device (scan (items_of core format) kinds.items (bytes_at core device))
  effect-told_before core own (action.Take device) = taking-told (record core { last = Some own }) own device (values_at core device)
  effect-told_before core own (action.Send device value) =
      answering-told (note (record core { last = Some own }) (event.Send device value)) _ Nothing
      (note-told (record core { last = Some own }) (event.Send device value))
  effect-told_before core own action.End = ending-told (record core { last = Some own }) own (event.End own)
  effect-told_before core own (action.Trap trap) = ending-told (record core { last = Some own }) own (event.Trap own trap)

  -- TURNS AND STATES

  -- who acts next
  pub pick-told_before : (core : Core) (offers : Offered) → pick (told_before before core) offers ≡ pick core offers
  pick-told_before core offers = pick-offers (told_before before core) core offers offers refl refl refl refl refl (λ t. refl)

  -- how the tasks stand
  pub states-told_before : (core : Core) (offers : Offered) → states (told_before before core) offers ≡ states core offers
  states-told_before core offers = states-offers (told_before before core) core offers offers refl refl refl refl refl refl (λ t. refl)

  -- how one task stands
  pub shown-told_before : (core : Core) (offers : Offered) (t : ℕ) → shown_of (told_before before core) offers t ≡ shown_of core offers t
  shown-told_before core offers t = cc (pick-told_before core offers, possible-same (told_before before core) core (offers t) refl refl refl)

  -- whose turn it can be
  pub can_turn-told_before : (core : Core) (offers : Offered) (t : ℕ) → can_turn (told_before before core) offers t ≡ can_turn core offers t
  can_turn-told_before core offers t =
      ap₂ (λ possible chosen. is_ready_row (row_of core t) possible && is_as_urgent core chosen t)
      (possible-same (told_before before core) core (offers t) refl refl refl) (pick-told_before core offers)

  -- a turn
  pub turned-told_before : (core : Core) (offers : Offered) (t : ℕ) → turned (told_before before core) offers t ≡ told_before before (turned core offers t)
  turned-told_before core offers t = ap (λ b. last_if b (told_before before core) t) (can_turn-told_before core offers t) ∙ by_test (can_turn core offers t)
    where
      by_test : (b : Bool) → last_if b (told_before before core) t ≡ told_before before (last_if b core t)
      by_test true = refl
      by_test false = refl

  -- that the states are told
  pub showing-told_before : (core : Core) (offers : Offered) → showing (told_before before core) offers ≡ told_before before (showing core offers)
  showing-told_before core offers =
      ap (λ shown. let c : Core = record core { told = (before ++ core.told) ++ shown } in c) (states-told_before core offers)
      ∙ ap (λ told. let c : Core = record core { told = told } in c) (append_assoc before core.told (states core offers))
