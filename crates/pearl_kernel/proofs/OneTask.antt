-- What only changes one task's row and tells events of that task keeps each property of cores that such a change and such an event keep.
use Rattle.std.proofs.Common.{◌≡◌, ℕ, Bool, true, false, Option, Some, None, length, refl, if◌then◌else◌}
use Rattle.pearl_rules.specs.declared.action.Start.{Start}
use Rattle.pearl_rules.specs.declared.action.Repeat.{Repeat}
use Rattle.pearl_rules.specs.declared.action.Repeat.TheVariants.{Once}
use Rattle.pearl_rules.specs.declared.event.Event.{Event}
use Rattle.pearl_rules.specs.declared.event.Event.TheVariants as event
use Rattle.pearl_rules.specs.declared.row.Kept.{Kept}
use Rattle.pearl_rules.specs.declared.row.Kept.TheVariants as kept
use Rattle.pearl_rules.specs.declared.row.Mode.{Mode}
use Rattle.pearl_rules.specs.declared.row.Mode.TheVariants.{Dormant, Active}
use Rattle.pearl_rules.specs.declared.row.Plan.{Plan}
use Rattle.pearl_rules.specs.declared.row.Activation.{Activation}
use Rattle.pearl_rules.specs.declared.row.TaskRow.{TaskRow}
use Rattle.pearl_rules.specs.Core.{Core, note, mode_of, is_active}
use Rattle.pearl_rules.specs.Plans.{changed_row, with_continuation, with_activation, continuation_of, activation_of}
use Rattle.pearl_rules.specs.Plans.{priorities, and_one, oldest, kept_of, with_kept, made_active, late_by, started_by, started, marked_mode, with_mark, planned, begun, waits_for, serves_if, continued}
use Rattle.pearl_rules.specs.Plans.{serve_continuation, serve_activation_by, serve_activation, plan_continuation, plan_activation}
use Rattle.pearl_rules.specs.Plans.{served, begin_continuation, begin_activation, continuation_began, reached}
use Rattle.pearl_rules.specs.Effect.{finished, again_by, ending, is_at_once, activated, continues, resuming, prevented, stopped_by}

-- an event of this task
abbrev pub IsOf : ℕ → Event → Type 0
IsOf u (event.Start task priority) = task ≡ u
IsOf u (event.End task) = task ≡ u
IsOf u (event.Stop task) = task ≡ u
IsOf u (event.Trap task trap) = task ≡ u
IsOf u (event.Kept task number) = task ≡ u
IsOf u (event.Overrun task) = task ≡ u
IsOf u other = ⊥

-- each change of the task's row and each event of the task keep P
pub record Closed (P : Core → Type 0) (u : ℕ) : Type 0 where
  pub row : (core : Core) (change : TaskRow → TaskRow) → P core → P (changed_row core u change)
  pub tell : (core : Core) (e : Event) → IsOf u e → P core → P (note core e)

either : (P : Core → Type 0) (test : Bool) (core other : Core) → P core → P other → P (if test then core else other)
either P true core other p q = p
either P false core other p q = q

module _ (P : Core → Type 0) (u : ℕ) (closed : Closed P u) where
  -- STARTS AND SUSPENDED TASKS

  made_active-kept : (core : Core) (priority : ℕ) (held : Kept) → P core → P (made_active core u priority held)
  made_active-kept core priority held p =
      closed.tell (changed_row core u (λ row. record row { mode = Active priority false; kept = held })) (event.Start u priority) refl
      (closed.row core (λ row. record row { mode = Active priority false; kept = held }) p)

  late-kept : (core : Core) (more : Option Kept) → P core → P (late_by more core u)
  late-kept core None p = closed.tell core (event.Overrun u) refl p
  late-kept core (Some held) p = closed.tell (with_kept core u held) (event.Kept u (length (priorities held))) refl
      (closed.row core (λ row. record row { kept = held }) p)

  started-kept : (core : Core) (priority : ℕ) → P core → P (started core u priority)
  started-kept core priority p = by_mode (mode_of core u)
    where
      by_mode : (mode : Mode) → P (started_by mode core u priority)
      by_mode Dormant = made_active-kept core priority kept.Nothing p
      by_mode (Active own suspended) = late-kept core (and_one (kept_of core u) priority) p

  pub mark-kept : (core : Core) (suspended : Bool) → P core → P (with_mark core u suspended)
  mark-kept core suspended p = closed.row core (λ row. record row { mode = marked_mode suspended (mode_of core u) }) p

  -- PLANS

  serve_continuation-kept : (core : Core) → P core → P (serve_continuation core u)
  serve_continuation-kept core p =
      either P (serves_if core (continuation_of core u)) (continued core u) core
      (closed.row (with_mark core u false) (λ row. record row { continuation = None }) (mark-kept core false p)) p

  serve_activation-kept : (core : Core) → P core → P (serve_activation core u)
  serve_activation-kept core p = by_plan (activation_of core u)
    where
      by_plan : (plan : Option Activation) → P (serve_activation_by plan core u)
      by_plan None = p
      by_plan (Some plan) = either P (serves_if core (Some plan.plan)) (started core u plan.priority) core
          (started-kept core plan.priority p) p

  plan_continuation-kept : (core : Core) (plan : Plan) → P core → P (plan_continuation core u plan)
  plan_continuation-kept core plan p = serve_continuation-kept (with_continuation core u (Some plan))
      (closed.row core (λ row. record row { continuation = Some plan }) p)

  plan_activation-kept : (core : Core) (plan : Activation) → P core → P (plan_activation core u plan)
  plan_activation-kept core plan p = serve_activation-kept (with_activation core u (Some plan))
      (closed.row core (λ row. record row { activation = Some plan }) p)

  pub served-kept : (core : Core) → P core → P (served core u)
  served-kept core p = serve_activation-kept (serve_continuation core u) (serve_continuation-kept core p)

  -- INTERRUPTS

  continuation_began-kept : (interrupt : ℕ) (core : Core) → P core → P (continuation_began interrupt core u)
  continuation_began-kept interrupt core p = by_plan (continuation_of core u)
    where
      by_plan : (plan : Option Plan) → P (begin_continuation interrupt plan core u)
      by_plan None = p
      by_plan (Some plan) = either P (waits_for interrupt plan.when) (plan_continuation core u (begun core plan)) core
          (plan_continuation-kept core (begun core plan) p) p

  activation_began-kept : (interrupt : ℕ) (core : Core) → P core →
      P (begin_activation interrupt (activation_of core u) core u)
  activation_began-kept interrupt core p = by_plan (activation_of core u)
    where
      by_plan : (plan : Option Activation) → P (begin_activation interrupt plan core u)
      by_plan None = p
      by_plan (Some plan) =
          let new : Activation = record plan { plan = begun core plan.plan } in
          either P (waits_for interrupt plan.plan.when) (plan_activation core u new) core
          (plan_activation-kept core new p) p

  pub reached-kept : (interrupt : ℕ) (core : Core) → P core → P (reached interrupt core u)
  reached-kept interrupt core p = activation_began-kept interrupt (continuation_began interrupt core u)
      (continuation_began-kept interrupt core p)

  -- ACTIONS

  pub activated-kept : (core : Core) (start : Start) (repeat : Repeat) (priority : ℕ) → P core →
      P (activated core u start repeat priority)
  activated-kept core start repeat priority p =
      let plan : Activation = record { plan = planned core start repeat; priority = priority } in
      either P (is_at_once start repeat) (started core u priority) (plan_activation core u plan)
      (started-kept core priority p) (plan_activation-kept core plan p)

  pub continues-kept : (core : Core) (start : Start) → P core → P (continues core u start)
  continues-kept core start p =
      either P (is_at_once start Once) (with_mark core u false)
      (if is_active core u then plan_continuation core u (planned core start Once) else core) (mark-kept core false p)
      (either P (is_active core u) (plan_continuation core u (planned core start Once)) core
      (plan_continuation-kept core (planned core start Once) p) p)

  pub resuming-kept : (core : Core) (start : Start) → P core → P (resuming core u start)
  resuming-kept core start p =
      plan_continuation-kept (with_mark core u true) (planned core start Once) (mark-kept core true p)

  pub prevented-kept : (core : Core) → P core → P (prevented core u)
  prevented-kept core p =
      closed.row core (λ row. record row { kept = kept.Nothing; continuation = None; activation = None }) p

  again-kept : (core : Core) (next : Option (ℕ × Kept)) → P core → P (again_by next core u)
  again-kept core None p = p
  again-kept core (Some (first, others)) p = made_active-kept core first others p

  pub ending-kept : (core : Core) (e : Event) → IsOf u e → P core → P (ending core u e).core
  ending-kept core e is p =
      again-kept (note (finished core u) e) (oldest (kept_of core u)) (closed.tell (finished core u) e is
      (closed.row core (λ row. record row { mode = Dormant; kept = kept.Nothing; continuation = None }) p))

  pub stopped-kept : (core : Core) → P core → P (stopped_by (mode_of core u) core u)
  stopped-kept core p = by_mode (mode_of core u)
    where
      by_mode : (mode : Mode) → P (stopped_by mode core u)
      by_mode Dormant = p
      by_mode (Active priority suspended) = ending-kept core (event.Stop u) refl p
