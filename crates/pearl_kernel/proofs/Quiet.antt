-- Tasks that aren't active have offered nothing, also after an action, an interrupt or a millisecond.
use Rattle.std.proofs.Common.{◌≡◌, ℕ, zero, suc, List, [], ◌∷◌, Bool, true, false, Option, Some, None, IfSome, nat_lt}
use Rattle.std.proofs.Common.{slice_get, slice_set, refl, sym, ap, subst, ◌∙◌}
use Rattle.pearl_value.specs.declared.cell.Cell.{Cell}
use Rattle.pearl_value.specs.declared.trap.Trap.TheVariants.{SemaLimit, Format}
use Rattle.pearl_rules.specs.declared.action.Action.{Action}
use Rattle.pearl_rules.specs.declared.action.Action.TheVariants as action
use Rattle.pearl_rules.specs.declared.entry.Entry.{Entry}
use Rattle.pearl_rules.specs.declared.event.Event.{Event}
use Rattle.pearl_rules.specs.declared.event.Event.TheVariants as event
use Rattle.pearl_rules.specs.declared.row.Kept.TheVariants as kept
use Rattle.pearl_rules.specs.declared.row.Mode.{Mode}
use Rattle.pearl_rules.specs.declared.row.Mode.TheVariants.{Dormant, Active}
use Rattle.pearl_rules.specs.declared.row.Plan.{Plan}
use Rattle.pearl_rules.specs.declared.row.TaskRow.{TaskRow}
use Rattle.pearl_rules.specs.Core.{Core, Channel, Switch, Bytes, Values, Outward, row_of, with_row, is_active_row, is_active_mode, mode_of}
use Rattle.pearl_rules.specs.Counts.{all_below_most, count_at}
use Rattle.pearl_rules.specs.Devices.{channel_of, interrupted, without_bytes, bytes_at, values_at, items_of, without_value_by, arrived}
use Rattle.pearl_rules.specs.Effect.{effect, ended_with, priority_or_declared, prevented, stopped_by, stopped_tasks, releasing, trying}
use Rattle.pearl_rules.specs.Effect.{getting, taking}
use Rattle.pearl_rules.specs.Plans.{on_row, millisecond}
use Rattle.pearl_rules.specs.Runs.{dropped, kept_at}
use Rattle.pearl_rules.specs.Scan.{Scanned, Short, Bad, Got, scan}
use Rattle.pearl_rules.proofs.Offered.{Stays, Starts, Closed, IsFree, arrived-kept, mark-kept, activated-kept}
use Rattle.pearl_rules.proofs.Offered.{any_kept, ended-other, continues-kept, resuming-kept, interrupted-kept, millisecond-kept}
use Rattle.pearl_kernel.proofs.Places.{by_task, none-less, none-here}

abbrev pub Quiet : List TaskRow → List (Option Action) → Type 0
Quiet rows offers = (t : ℕ) → is_active_row (slice_get rows t) ≡ false → kept_at offers t ≡ None

pub quiet-less : (rows : List TaskRow) (offers : List (Option Action)) (u : ℕ) → Quiet rows offers →
    Quiet rows (slice_set offers u None)
quiet-less rows offers u q t e = none-less offers u t (q t e)

-- a task's row changes, but it doesn't become dormant
quiet_row : (rows : List TaskRow) (offers : List (Option Action)) (u : ℕ) (row : TaskRow) →
    (is_active_mode row.mode ≡ false → is_active_row (slice_get rows u) ≡ false) → Quiet rows offers →
    Quiet (slice_set rows u row) offers
quiet_row [] offers u row still q t e = q t e
quiet_row (r ∷ rows) offers zero row still q zero e = q zero (still e)
quiet_row (r ∷ rows) offers zero row still q (suc t) e = q (suc t) e
quiet_row (r ∷ rows) offers (suc u) row still q zero e = q zero e
quiet_row (r ∷ rows) [] (suc u) row still q (suc t) e = refl
quiet_row (r ∷ rows) (o ∷ offers) (suc u) row still q (suc t) e = quiet_row rows offers u row still
    (λ i h. q (suc i) h) t e

abbrev AnyPriority : ℕ → Type 0
AnyPriority priority = Unit {0}

abbrev AnyPlan : Plan → Type 0
AnyPlan plan = Unit {0}

if_any : {X : Type 0} (P : X → Type 0) → ((x : X) → P x) → (o : Option X) → IfSome o P
if_any P all None = tt
if_any P all (Some x) = all x

still : (before mode : Mode) → Stays AnyPriority before mode → is_active_mode mode ≡ false → is_active_mode before ≡ false
still Dormant mode stays e = refl
still (Active own suspended) Dormant stays e = absurd stays
still (Active own suspended) (Active priority after) stays e = e

module _ (offers : List (Option Action)) where
  abbrev QuietCore : Core → Type 0
  QuietCore core = Quiet core.tasks offers

  -- another row of the same mode, or of one that isn't dormant
  same_row : (core : Core) (u : ℕ) (old row : TaskRow) → row_of core u ≡ Some old →
      (is_active_mode row.mode ≡ false → is_active_mode old.mode ≡ false) → QuietCore core → QuietCore (with_row core u row)
  same_row core u old row at less q = quiet_row core.tasks offers u row (λ e. ap is_active_row at ∙ less e) q

  closed : Closed AnyPriority AnyPlan QuietCore
  closed = record {
    told = λ core e q. q;
    stands = λ core t row mode held at stays keeps q.
        same_row core t row (record row { mode = mode; kept = held }) at (still row.mode mode stays) q;
    goes_on = λ core t row plan at lawful q. same_row core t row (record row { continuation = plan }) at (λ e. e) q;
    starts = λ core t row plan at lawful q. same_row core t row (record row { activation = Some plan }) at (λ e. e) q;
    going = λ core t row at q. if_any AnyPlan (λ plan. tt) row.continuation;
    starting = λ core t row at q. if_any (Starts AnyPriority AnyPlan) (λ plan. (tt, tt)) row.activation;
    keeping = λ core t row at q. any_kept row.kept;
    begins = λ core plan lawful. tt;
  }

  pub quiet-interrupted : (core : Core) (device : ℕ) → QuietCore core → QuietCore (interrupted core device)
  quiet-interrupted core device q = interrupted-kept AnyPriority AnyPlan QuietCore closed core device q

  pub quiet-millisecond : (core : Core) → QuietCore core → QuietCore (millisecond core)
  quiet-millisecond core q = millisecond-kept AnyPriority AnyPlan QuietCore closed core q

  free : IsFree QuietCore
  free core other only q = subst (λ rows. Quiet rows offers) (sym only.tasks) q

  pub quiet-arrived : (core : Core) (entry : Entry) → QuietCore core → QuietCore (arrived core entry)
  quiet-arrived core entry q = arrived-kept AnyPriority AnyPlan QuietCore closed free core entry (λ time e. q) q

  quiet_prevented : (core : Core) (u : ℕ) → QuietCore core → QuietCore (prevented core u)
  quiet_prevented core u q = by_row (row_of core u) refl
    where
      by_row : (row : Option TaskRow) → row_of core u ≡ row →
          QuietCore (on_row row core (λ r. with_row core u (record r { kept = kept.Nothing; continuation = None; activation = None })))
      by_row None at = q
      by_row (Some row) at =
          same_row core u row (record row { kept = kept.Nothing; continuation = None; activation = None }) at (λ e. e) q

  -- the task that ends has offered nothing, also where it is active again
  quiet_finished : (core : Core) (u : ℕ) (e : Event) → QuietCore core → Quiet (ended_with core u e).tasks (slice_set offers u None)
  quiet_finished core u e q t is =
      by_task t u (kept_at (slice_set offers u None) t ≡ None)
      (λ same. subst (λ v. kept_at (slice_set offers u None) v ≡ None) (sym same) (none-here offers u))
      (λ other. none-less offers u t (q t (sym (ap is_active_row (ended-other core u t e other)) ∙ is)))

  quiet_stopped : (core : Core) (u : ℕ) → QuietCore core →
      Quiet (stopped_by (mode_of core u) core u).tasks (dropped (stopped_tasks (mode_of core u) u) offers)
  quiet_stopped core u q = by_mode (mode_of core u)
    where
      by_mode : (mode : Mode) → Quiet (stopped_by mode core u).tasks (dropped (stopped_tasks mode u) offers)
      by_mode Dormant = q
      by_mode (Active priority suspended) = quiet_finished core u (event.Stop u) q

  quiet_releasing : (core : Core) (own : ℕ) (list : List ℕ) (can_raise : Bool) → QuietCore core →
      Quiet (releasing core own list can_raise).core.tasks (dropped (releasing core own list can_raise).ended offers)
  quiet_releasing core own list true q = q
  quiet_releasing core own list false q = quiet_finished core own (event.Trap own SemaLimit) q

  quiet_trying : (core : Core) (semaphore : ℕ) (is_free : Bool) → QuietCore core →
      Quiet (trying core semaphore is_free).core.tasks (dropped (trying core semaphore is_free).ended offers)
  quiet_trying core semaphore true q = q
  quiet_trying core semaphore false q = q

  quiet_getting : (core : Core) (own device : ℕ) (scanned : Scanned) → QuietCore core →
      Quiet (getting core own device scanned).core.tasks (dropped (getting core own device scanned).ended offers)
  quiet_getting core own device Short q = quiet_finished core own (event.End own) q
  quiet_getting core own device (Bad used) q = quiet_finished (without_bytes core device used) own (event.Trap own Format) q
  quiet_getting core own device (Got used values) q = q

  quiet_taking : (core : Core) (own device : ℕ) (values : List Cell) → QuietCore core →
      Quiet (taking core own device values).core.tasks (dropped (taking core own device values).ended offers)
  quiet_taking core own device [] q = quiet_finished core own (event.End own) q
  quiet_taking core own device (x ∷ later) q = by_channel (channel_of core device)
    where
      by_channel : (channel : Option Channel) → QuietCore (without_value_by channel core device)
      by_channel None = q
      by_channel (Some (Switch enabled)) = q
      by_channel (Some (Bytes pending)) = q
      by_channel (Some (Values kind pending)) = q
      by_channel (Some Outward) = q

  pub quiet-after : (core : Core) (own : ℕ) (a : Action) → QuietCore core →
      Quiet (effect core own a).core.tasks (dropped (effect core own a).ended offers)
  unfolding effect
  quiet-after core own a q = by_action a
    where
      acted : Core
      acted = record core { last = Some own }

      by_action : (a : Action) → Quiet (effect core own a).core.tasks (dropped (effect core own a).ended offers)
      by_action (action.Read slot) = q
      by_action (action.Write slot value) = q
      by_action action.Turn = q
      by_action action.Enter = q
      by_action action.Now = q
      by_action (action.Request list) = q
      by_action (action.Release list) = quiet_releasing acted own list.items (all_below_most core.counts list.items) q
      by_action (action.Try semaphore) = quiet_trying acted semaphore (nat_lt 0 (count_at core.counts semaphore)) q
      by_action (action.Activate u start repeat priority) =
          activated-kept AnyPriority AnyPlan QuietCore closed acted u start repeat (priority_or_declared acted u priority)
          (λ row at. tt) tt q
      by_action (action.Continue u start) = continues-kept AnyPriority AnyPlan QuietCore closed acted u start tt q
      by_action (action.Resume start) = resuming-kept AnyPriority AnyPlan QuietCore closed acted own start tt q
      by_action (action.Suspend u) = mark-kept AnyPriority AnyPlan QuietCore closed acted u true q
      by_action (action.Terminate u) = quiet_stopped acted u q
      by_action (action.Prevent u) = quiet_prevented acted u q
      by_action (action.Enable device) = q
      by_action (action.Disable device) = q
      by_action (action.Trigger device) = quiet-interrupted acted device q
      by_action (action.Put device text) = q
      by_action (action.Get device format kinds) =
          quiet_getting acted own device (scan (items_of core format) kinds.items (bytes_at core device)) q
      by_action (action.Take device) = quiet_taking acted own device (values_at core device) q
      by_action (action.Send device value) = q
      by_action action.End = quiet_finished acted own (event.End own) q
      by_action (action.Trap trap) = quiet_finished acted own (event.Trap own trap) q
