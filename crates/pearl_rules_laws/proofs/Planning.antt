-- What becomes of a task's plans by actions, and at which moments they serve.
use Rattle.std.proofs.Common.{◌≡◌, ◌↔◌, inl, inr, List, ℕ, eq-eqb, eqb-true, ◌+◌, ◌^◌, ◌<◌, pos, Bool, true, false, IsTrue, if◌then◌else◌, ◌∷◌, ◌++◌, [], Option, Some, None, refl, sym, ap, ap₂, subst, ◌∙◌, arith}
use Rattle.std.proofs.lemmas.Bool.{true≢false}
use Rattle.std.proofs.lemmas.Option.{none-some, same_Some}
use Rattle.pearl_value.specs.declared.trap.Trap as traps
use Rattle.pearl_rules.specs.Series.{fires_if}
use Rattle.pearl_rules.proofs.Offered.{fires_as_said, behind, ended-here, ended-other, ended-rest}
use Rattle.pearl_rules.specs.declared.action.Action.TheVariants as action
use Rattle.pearl_rules.specs.declared.action.Answer.TheVariants.{Nothing}
use Rattle.pearl_rules.specs.declared.action.Start.{Start}
use Rattle.pearl_rules.specs.declared.action.Start.TheVariants.{Free, At, After, When, WhenAfter}
use Rattle.pearl_rules.specs.declared.action.Repeat.{Repeat}
use Rattle.pearl_rules.specs.declared.action.Repeat.TheVariants.{Once}
use Rattle.pearl_rules.specs.declared.event.Event.{Event}
use Rattle.pearl_rules.specs.declared.event.Event.TheVariants as event
use Rattle.pearl_rules.specs.declared.row.Kept.TheVariants as kept
use Rattle.pearl_rules.specs.declared.row.Mode.TheVariants.{Dormant, Active}
use Rattle.pearl_rules.specs.declared.row.Plan.{Plan}
use Rattle.pearl_rules.specs.declared.row.TaskRow.{TaskRow}
use Rattle.pearl_rules.specs.Core.{Core, note, row_of, with_row, is_active_row, is_active_mode, mode_of_row}
use Rattle.pearl_rules.specs.Plans.{oldest, kept_in, time_at, begun, started, marked_mode, with_mark, series_from, begin_series, interrupt_of, first_moment, period_of, end_of, written, last_moment, planned, waits_for, serves_if, plan_continuation, plan_activation, occurred}
use Rattle.pearl_rules.specs.Devices.{is_enabled, interrupted}
use Rattle.pearl_rules.specs.Effect.{answering, effect, ended_with, stopped_by, is_at_once, priority_or_declared}
use Rattle.pearl_rules.specs.Laws.{happened_at, events_behind}
use Rattle.pearl_rules_laws.specs.Plans.{IsMoment, Waits, IsWrittenWith, ChangesRow, EndsRow, mode_after, start_events, starts_now, new_activation, with_new_activation, with_new_continuation}
use Rattle.pearl_rules_laws.proofs.Times.{next_time}
use Rattle.pearl_rules_laws.proofs.Steps.{tells, tells_none, step_changes, row_changed, row_there, row_twice, mark_is, plan_continuation_is, plan_activation_is}

-- the core in which this task acted last
abbrev pub acted : Core → ℕ → Core
acted core own = record core { last = Some own }

-- a row that is written, and events
pub changes_by : (old new : Core) (t : ℕ) (row changed : TaskRow) (events : List Event) → row_of old t ≡ Some row →
    new ≡ tells (with_row old t changed) events → ChangesRow old new t changed events
changes_by old new t row changed events at is =
    subst (λ c. ChangesRow old c t changed events) (sym is) (step_changes old t row changed events at)

-- without events
pub changes_silently : (old new : Core) (t : ℕ) (row changed : TaskRow) → row_of old t ≡ Some row → new ≡ with_row old t changed →
    ChangesRow old new t changed []
changes_silently old new t row changed at is = changes_by old new t row changed [] at (is ∙ tells_none (with_row old t changed))

-- an end
pub ended_by : (core : Core) (t : ℕ) (row : TaskRow) → row_of core t ≡ Some row → (e : Event) → EndsRow core (ended_with core t e) t row e
ended_by core t row at e = record {
  this = ended-here core t e ∙ ap behind at;
  others = λ u differ. ended-other core t u e differ;
  rest = ended-rest core t e
      ∙ ap (λ held. let c : Core = record core {
        tasks = (ended_with core t e).tasks;
        told = core.told ++ happened_at core.moment (e ∷ events_behind t (oldest held));
      } in c) (ap kept_in at);
}

module _ (core : Core) (own t : ℕ) (row : TaskRow) (at : row_of core t ≡ Some row) where
  pub prevent_drops : ChangesRow (acted core own) (effect core own (action.Prevent t)).core t
      (record row { kept = kept.Nothing; continuation = None; activation = None }) []
  unfolding effect
  prevent_drops =
      changes_silently (acted core own) _ t row (record row { kept = kept.Nothing; continuation = None; activation = None }) at
      (row_changed (acted core own) t row at (λ r. record r { kept = kept.Nothing; continuation = None; activation = None }))

  pub stop_keeps : (priority : ℕ) (suspended : Bool) → row.mode ≡ Active priority suspended →
      EndsRow (acted core own) (effect core own (action.Terminate t)).core t row (event.Stop t)
  unfolding effect
  stop_keeps priority suspended active =
      subst (λ mode. EndsRow (acted core own) (stopped_by mode (acted core own) t) t row (event.Stop t))
      (sym (ap mode_of_row at ∙ active)) (ended_by (acted core own) t row at (event.Stop t))

  pub activate_plans : (start : Start) (repeat : Repeat) (priority : Option ℕ) → is_at_once start repeat ≡ false →
      ChangesRow (acted core own) (effect core own (action.Activate t start repeat priority)).core t
      (with_new_activation core (new_activation core t start repeat priority) row)
      (start_events t (starts_now core (Some (new_activation core t start repeat priority))) row.mode row.kept)
  unfolding effect
  activate_plans start repeat priority later =
      let activation = new_activation core t start repeat priority in
      changes_by (acted core own) _ t row (with_new_activation core activation row) (start_events t (starts_now core (Some activation)) row.mode row.kept) at
      (ap (λ b. if b then started (acted core own) t (priority_or_declared core t priority) else plan_activation (acted core own) t activation) later
      ∙ plan_activation_is (acted core own) t row at activation)

  pub continue_plans : (start : Start) (priority : ℕ) (suspended : Bool) → row.mode ≡ Active priority suspended → is_at_once start Once ≡ false →
      ChangesRow (acted core own) (effect core own (action.Continue t start)).core t (with_new_continuation core (planned core start Once) row) []
  unfolding effect
  continue_plans start priority suspended active later =
      let plan = planned core start Once in
      changes_silently (acted core own) _ t row (with_new_continuation core plan row) at
      (ap₂ (λ b c. if b then with_mark (acted core own) t false else (if c then plan_continuation (acted core own) t plan else acted core own)) later
      (ap is_active_row at ∙ ap is_active_mode active)
      ∙ plan_continuation_is (acted core own) t row at plan)

  pub dormant_continue : (start : Start) → row.mode ≡ Dormant → is_at_once start Once ≡ false →
      effect core own (action.Continue t start) ≡ answering (acted core own) Nothing
  unfolding effect
  dormant_continue start dormant later =
      let plan = planned core start Once in
      ap (λ c. answering c Nothing)
      (ap₂ (λ b c. if b then with_mark (acted core own) t false else (if c then plan_continuation (acted core own) t plan else acted core own)) later
      (ap is_active_row at ∙ ap is_active_mode dormant))

module _ (core : Core) (own : ℕ) (row : TaskRow) (at : row_of core own ≡ Some row) where
  pub end_keeps : EndsRow (acted core own) (effect core own action.End).core own row (event.End own)
  unfolding effect
  end_keeps = ended_by (acted core own) own row at (event.End own)

  pub trap_keeps : (trap : traps.Trap) → EndsRow (acted core own) (effect core own (action.Trap trap)).core own row (event.Trap own trap)
  unfolding effect
  trap_keeps trap = ended_by (acted core own) own row at (event.Trap own trap)

  -- a task that suspends itself, with a new plan to go on
  resumes : (priority : ℕ) (before : Bool) (start : Start) → row.mode ≡ Active priority before →
      ChangesRow (acted core own) (effect core own (action.Resume start)).core own
      (with_new_continuation core (planned core start Once) (record row { mode = Active priority true })) []
  unfolding effect
  resumes priority before start active =
      let plan = planned core start Once in
      let marked : TaskRow = record row { mode = Active priority true } in
      changes_silently (acted core own) _ own row (with_new_continuation core plan marked) at
      (ap (λ c. plan_continuation c own plan)
      (mark_is (acted core own) own row at true ∙ ap (λ mode. with_row (acted core own) own (record row { mode = marked_mode true mode })) active)
      ∙ plan_continuation_is (with_row (acted core own) own marked) own marked (row_there (acted core own) own row at marked) plan
      ∙ row_twice (acted core own) own marked (with_new_continuation core plan marked))

  pub resume_later : (priority : ℕ) (before : Bool) (start : Start) → row.mode ≡ Active priority before →
      serves_if core (Some (planned core start Once)) ≡ false →
      ChangesRow (acted core own) (effect core own (action.Resume start)).core own
      (record row { mode = Active priority true; continuation = Some (planned core start Once) }) []
  resume_later priority before start active quiet =
      subst (λ b. ChangesRow (acted core own) (effect core own (action.Resume start)).core own
      (record row { mode = mode_after b None (Active priority true); continuation = if b then None else Some (planned core start Once) }) []) quiet
      (resumes priority before start active)

  pub resume_at_once : (priority : ℕ) (before : Bool) (start : Start) → row.mode ≡ Active priority before →
      serves_if core (Some (planned core start Once)) ≡ true →
      ChangesRow (acted core own) (effect core own (action.Resume start)).core own (record row { mode = Active priority false; continuation = None }) []
  resume_at_once priority before start active now =
      subst (λ b. ChangesRow (acted core own) (effect core own (action.Resume start)).core own
      (record row { mode = mode_after b None (Active priority true); continuation = if b then None else Some (planned core start Once) }) []) now
      (resumes priority before start active)

-- MOMENTS

-- a plan that doesn't wait for an interrupt serves at its moments
pub plan_serves : (core : Core) (start : Start) (repeat : Repeat) (u : ℕ) → (Waits start → ⊥) →
    IsTrue (fires_if (planned core start repeat).series u)
    ↔ IsMoment (first_moment core start) (period_of repeat)
    (last_moment core (first_moment core start) (end_of repeat)) u
plan_serves core Free repeat u free = fires_as_said (series_from core (first_moment core Free) (written Free repeat)) u
plan_serves core (At time) repeat u free = fires_as_said
    (series_from core (first_moment core (At time)) (written (At time) repeat)) u
plan_serves core (After time) repeat u free = fires_as_said
    (series_from core (first_moment core (After time)) (written (After time) repeat)) u
plan_serves core (When interrupt) repeat u free = absurd (free tt)
plan_serves core (WhenAfter interrupt time) repeat u free = absurd (free tt)

-- one that waits for an interrupt serves at none before that occurs
pub waiting_serves : (core : Core) (start : Start) (repeat : Repeat) (u : ℕ) → Waits start → fires_if (planned core start repeat).series u ≡ false
waiting_serves core Free repeat u waits = absurd waits
waiting_serves core (At time) repeat u waits = absurd waits
waiting_serves core (After time) repeat u waits = absurd waits
waiting_serves core (When interrupt) repeat u waits = refl
waiting_serves core (WhenAfter interrupt time) repeat u waits = refl

-- the series of a plan that begins now
pub begun_serves : (core : Core) (plan : Plan) (u : ℕ) → IsTrue (fires_if (begun core plan).series u)
    ↔ IsMoment (core.moment + plan.after) plan.period (last_moment core (core.moment + plan.after) plan.end) u
begun_serves core plan u = fires_as_said (begin_series core plan) u

-- after no time is now
pub after_no_time : (core : Core) → core.moment < 2 ^ 64 → IsTrue (serves_if core (Some (planned core (After (pos 0)) Once)))
after_no_time core near = (plan_serves core (After (pos 0)) Once core.moment (λ waits. waits)).1 ((0, omega arith), omega (arith, near))

-- and so is this time of day
pub at_this_time : (core : Core) (time : ℕ) → core.moment < 2 ^ 64 → time < 86400000 → time_at core core.moment ≡ time →
    IsTrue (serves_if core (Some (planned core (At time) Once)))
at_this_time core time near small is =
    let next = next_time core time core.moment small in
    let up = next.least core.moment (omega arith) is in
    let later = next.later in
    (plan_serves core (At time) Once core.moment (λ waits. waits)).1 ((0, omega (arith, up, later)), omega (arith, near))

-- a plan at the time of day that it is begins now
pub planned_at_this_time : (core : Core) (time : ℕ) (repeat : Repeat) → time < 86400000 →
    time_at core core.moment ≡ time →
    planned core (At time) repeat ≡ planned core Free repeat
planned_at_this_time core time repeat small is =
    let next = next_time core time core.moment small in
    let up = next.least core.moment (omega arith) is in
    let later = next.later in
    let now : first_moment core (At time) ≡ first_moment core Free = omega (arith, up, later) in
    ap (λ first. let p : Plan = record (written Free repeat) {
      series = Some
          (series_from core first (written Free repeat));
    } in p) now

-- INTERRUPTS

pub masked_tells : (core : Core) (device : ℕ) → is_enabled core device ≡ false → interrupted core device ≡ note core (event.Masked device)
masked_tells core device off = ap (λ b. if b then occurred core device else note core (event.Masked device)) off

-- INTERRUPTS

-- for which interrupt a plan waits
pub plan_waits : (interrupt : ℕ) (when : Option ℕ) → IsTrue (waits_for interrupt when) ↔ (when ≡ Some interrupt)
plan_waits interrupt when = (named when, λ is. ap (waits_for interrupt) is ∙ eq-eqb interrupt interrupt refl)
  where
    named : (when : Option ℕ) → IsTrue (waits_for interrupt when) → when ≡ Some interrupt
    named None is = absurd (true≢false (sym is))
    named (Some other) is = ap Some (sym (eqb-true interrupt other is))

-- and for which one as it is written
pub written_waits : (interrupt : ℕ) (start : Start) →
    (interrupt_of start ≡ Some interrupt) ↔ IsWrittenWith interrupt start
written_waits interrupt start = (from start, back)
  where
    from : (s : Start) → interrupt_of s ≡ Some interrupt → IsWrittenWith interrupt s
    from Free is = absurd (none-some interrupt is)
    from (At time) is = absurd (none-some interrupt is)
    from (After time) is = absurd (none-some interrupt is)
    from (When other) is = inl (ap When (same_Some other interrupt is))
    from (WhenAfter other time) is = inr (time, ap (λ i. WhenAfter i time) (same_Some other interrupt is))

    back : IsWrittenWith interrupt start → interrupt_of start ≡ Some interrupt
    back (inl is) = ap interrupt_of is
    back (inr (time, is)) = ap interrupt_of is
