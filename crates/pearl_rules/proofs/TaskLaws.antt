-- How an action changes one task, and which actions end the task that acts.
use Rattle.std.proofs.Common.{◌≡◌, ◌≢◌, ◌↔◌, ℕ, ◌-◌, ◌^◌, ◌<◌, ◌≤◌, List, [], ◌∷◌, Bool, true, false, ◌&&◌, nat_eq, nat_lt, Option, Some, None, length, refl, sym, ap, ap₂, subst, ◌∙◌, append-nil, eq-eqb, eqb-true, ltb-false}
use Rattle.std.specs.List.{Contains}
use Rattle.std.proofs.lemmas.Bool.{true≢false, eqb-false, ne_eqb}
use Rattle.pearl_value.specs.declared.trap.Trap as traps
use Rattle.pearl_rules.specs.declared.action.Action.{Action}
use Rattle.pearl_rules.specs.declared.action.Action.TheVariants as action
use Rattle.pearl_rules.specs.declared.action.Start.TheVariants.{Free}
use Rattle.pearl_rules.specs.declared.action.Repeat.TheVariants.{Once}
use Rattle.pearl_rules.specs.declared.action.Answer.{Answer}
use Rattle.pearl_rules.specs.declared.action.Answer.TheVariants.{Nothing}
use Rattle.pearl_rules.specs.declared.event.Event.{Event}
use Rattle.pearl_rules.specs.declared.event.Event.TheVariants as event
use Rattle.pearl_rules.specs.declared.row.Kept.{Kept}
use Rattle.pearl_rules.specs.declared.row.Kept.TheVariants as kept
use Rattle.pearl_rules.specs.declared.row.Mode.{Mode}
use Rattle.pearl_rules.specs.declared.row.Mode.TheVariants.{Dormant, Active}
use Rattle.pearl_rules.specs.declared.row.TaskRow.{TaskRow}
use Rattle.pearl_rules.specs.declared.setup.Setup.{Setup}
use Rattle.pearl_rules.specs.Core.{Core, note, row_of, mode_of_row, mode_of}
use Rattle.pearl_rules.specs.Counts.{count_at, all_below_most}
use Rattle.pearl_value.specs.declared.cell.Cell.{Cell}
use Rattle.pearl_rules.specs.Plans.{changed_row, priorities, and_one, oldest, kept_in, kept_of, with_kept, late_by, started_by, with_mode, marked_mode, with_mark}
use Rattle.pearl_rules.specs.Devices.{items_of, bytes_at, values_at}
use Rattle.pearl_rules.specs.Scan.{Scanned, Short, Bad, Got, scan}
use Rattle.pearl_rules.specs.Effect.{Reply, Hears, Ends, Effect, effect, ended_with, answering, priority_or_declared, stopped_by, stopped_tasks, reply_if_other, releasing, trying, getting, taking}
use Rattle.pearl_rules.specs.Pick.{Offered, is_possible, is_ready, is_ready_row, is_eligible}
use Rattle.pearl_rules.specs.Slots.{Fits}
use Rattle.pearl_rules.specs.Laws.{mode_behind, kept_behind, events_behind, IsToldBehind, ChangesTask, EndsTask, StartsLate, KeepsOne, ServesFirst, IsGot, EndsItself}
use Rattle.pearl_rules.proofs.Behind.{changed-other, changed-here, changed-none, row_alone, ended-mode, ended-kept, ended-goes_on, ended-starts, ended-other, ended-rest, oldest-is, one_more, no_room}
use Rattle.pearl_rules.proofs.Places.{there_at, here, there}
use Rattle.pearl_rules.proofs.CountLaws.{not_all_below}

-- ONE TASK

-- a task that is there gets the mode
mode_there : (core : Core) (t : ℕ) (change : TaskRow → TaskRow) (mode : Mode) (row : TaskRow) → ((r : TaskRow) → (change r).mode ≡ mode) →
    row_of core t ≡ Some row → mode_of (changed_row core t change) t ≡ mode
mode_there core t change mode row gets at = ap mode_of_row (changed-here core t change row at) ∙ gets row

abbrev keeps_row : Kept → TaskRow → TaskRow
keeps_row kept row = record row { kept = kept }

-- one that isn't is dormant
mode_dormant : (core : Core) (t : ℕ) (change : TaskRow → TaskRow) → ((r : TaskRow) → (change r).mode ≡ Dormant) → mode_of (changed_row core t change) t ≡ Dormant
mode_dormant core t change gets = by_row (row_of core t) refl
  where
    by_row : (row : Option TaskRow) → row_of core t ≡ row → mode_of (changed_row core t change) t ≡ Dormant
    by_row None at = ap (λ c. mode_of c t) (changed-none core t change at) ∙ ap mode_of_row at
    by_row (Some row) at = mode_there core t change Dormant row gets at

-- an active task is there
mode_active : (core : Core) (t before : ℕ) (suspended : Bool) (change : TaskRow → TaskRow) (mode : Mode) → ((r : TaskRow) → (change r).mode ≡ mode) →
    mode_of core t ≡ Active before suspended → mode_of (changed_row core t change) t ≡ mode
mode_active core t before suspended change mode gets active = by_row (row_of core t) refl
  where
    by_row : (row : Option TaskRow) → row_of core t ≡ row → mode_of (changed_row core t change) t ≡ mode
    by_row None at = let no : Dormant ≡ Active before suspended = sym (ap mode_of_row at) ∙ active in let never : ⊥ = cc in absurd never
    by_row (Some row) at = mode_there core t change mode row gets at

-- an active task keeps its mode where its row keeps it
mode_kept : (core : Core) (t before : ℕ) (suspended : Bool) (change : TaskRow → TaskRow) → ((r : TaskRow) → (change r).mode ≡ r.mode) →
    mode_of core t ≡ Active before suspended → mode_of (changed_row core t change) t ≡ Active before suspended
mode_kept core t before suspended change keeps active = by_row (row_of core t) refl
  where
    by_row : (row : Option TaskRow) → row_of core t ≡ row → mode_of (changed_row core t change) t ≡ Active before suspended
    by_row None at = ap (λ c. mode_of c t) (changed-none core t change at) ∙ active
    by_row (Some row) at = ap mode_of_row (changed-here core t change row at) ∙ keeps row ∙ sym (ap mode_of_row at) ∙ active

-- and then it keeps these starts
kept_now : (core : Core) (t before : ℕ) (suspended : Bool) (kept : Kept) → mode_of core t ≡ Active before suspended →
    kept_of (with_kept core t kept) t ≡ kept
kept_now core t before suspended kept active = by_row (row_of core t) refl
  where
    by_row : (row : Option TaskRow) → row_of core t ≡ row → kept_of (with_kept core t kept) t ≡ kept
    by_row None at = let no : Dormant ≡ Active before suspended = sym (ap mode_of_row at) ∙ active in let never : ⊥ = cc in absurd never
    by_row (Some row) at = ap kept_in (changed-here core t (keeps_row kept) row at)

-- a start
abbrev active_row : ℕ → TaskRow → TaskRow
active_row priority row = record row { mode = Active priority false; kept = kept.Nothing }

abbrev stands_so : Mode → TaskRow → TaskRow
stands_so mode row = record row { mode = mode }

-- an answer is no end
no_end : (answer : Answer) → Hears answer ≡ Ends → ⊥
no_end answer e = cc

module _ (core : Core) (own : ℕ) where
  -- the core in which this task acted last
  abbrev acted : Core
  acted = record core { last = Some own }

  -- an effect with this core
  abbrev leading : Core → Reply → List ℕ → Effect
  leading after reply ended = record { core = after; reply = reply; ended = ended }

  -- another row, and an event
  told_change : (t : ℕ) (change : TaskRow → TaskRow) (mode : Mode) (e : Event) (reply : Reply) (ended : List ℕ) →
      mode_of (changed_row acted t change) t ≡ mode →
      ChangesTask core own t mode (e ∷ []) reply (leading (note (changed_row acted t change) e) reply ended)
  told_change t change mode e reply ended is = record {
    stands = is;
    others = λ u differ. changed-other acted t u change differ;
    rest = ap (λ c. note c e) (row_alone acted t change);
    replies = refl;
  }

  -- another mode without an event
  silent_change : (t : ℕ) (mode : Mode) (reply : Reply) (ended : List ℕ) → mode_of (with_mode acted t mode) t ≡ mode →
      ChangesTask core own t mode [] reply (leading (with_mode acted t mode) reply ended)
  silent_change t mode reply ended is = record {
    stands = is;
    others = λ u differ. changed-other acted t u (stands_so mode) differ;
    rest = row_alone acted t (stands_so mode)
        ∙ ap (λ told. let c : Core = record acted { tasks = (with_mode acted t mode).tasks; told = told } in c) (sym (append-nil core.told));
    replies = refl;
  }

  -- an event alone
  told_alone : (t : ℕ) (mode : Mode) (e : Event) (reply : Reply) (ended : List ℕ) → mode_of core t ≡ mode →
      ChangesTask core own t mode (e ∷ []) reply (leading (note acted e) reply ended)
  told_alone t mode e reply ended is = record { stands = is; others = λ u differ. refl; rest = refl; replies = refl }

  -- nothing
  no_change : (t : ℕ) (mode : Mode) (reply : Reply) (ended : List ℕ) → mode_of core t ≡ mode →
      ChangesTask core own t mode [] reply (leading acted reply ended)
  no_change t mode reply ended is = record {
    stands = is;
    others = λ u differ. refl;
    rest = ap (λ told. let c : Core = record acted { told = told } in c) (sym (append-nil core.told));
    replies = refl;
  }

  -- STARTS

  pub start_starts : (t : ℕ) (priority : Option ℕ) → t < length core.tasks → mode_of core t ≡ Dormant →
      ChangesTask core own t (Active (priority_or_declared core t priority) false)
      (event.Start t (priority_or_declared core t priority) ∷ []) (Hears Nothing) (effect core own (action.Activate t Free Once priority))
  unfolding effect
  start_starts t priority less dormant =
      let at = there_at core.tasks t less in
      let chosen = priority_or_declared core t priority in
      subst (λ mode. ChangesTask core own t (Active chosen false) (event.Start t chosen ∷ []) (Hears Nothing) (answering (started_by mode acted t chosen) Nothing))
      (sym dormant) (told_change t (active_row chosen) (Active chosen false) (event.Start t chosen) (Hears Nothing) []
      (mode_there acted t (active_row chosen) (Active chosen false) at.0 (λ r. refl) at.1))

  -- what becomes of a start of an active task, where this is what it keeps then
  late_start : (t before : ℕ) (suspended : Bool) (priority : Option ℕ) (more : Option Kept) → mode_of core t ≡ Active before suspended →
      and_one (kept_of core t) (priority_or_declared core t priority) ≡ more →
      effect core own (action.Activate t Free Once priority) ≡ answering (late_by more acted t) Nothing
  unfolding effect
  late_start t before suspended priority more active is =
      ap (λ mode. answering (started_by mode acted t (priority_or_declared core t priority)) Nothing) active
      ∙ ap (λ held. answering (late_by held acted t) Nothing) is

  -- it is lost
  lost_start : (t before : ℕ) (suspended : Bool) → mode_of core t ≡ Active before suspended →
      ChangesTask core own t (Active before suspended) (event.Overrun t ∷ []) (Hears Nothing) (answering (late_by None acted t) Nothing)
  lost_start t before suspended active = told_alone t (Active before suspended) (event.Overrun t) (Hears Nothing) [] active

  -- or the task keeps it
  kept_start : (t before : ℕ) (suspended : Bool) (more : Kept) → mode_of core t ≡ Active before suspended →
      ChangesTask core own t (Active before suspended) (event.Kept t (length (priorities more)) ∷ []) (Hears Nothing)
      (answering (late_by (Some more) acted t) Nothing)
  kept_start t before suspended more active =
      told_change t (keeps_row more) (Active before suspended) (event.Kept t (length (priorities more))) (Hears Nothing) []
      (mode_kept acted t before suspended (keeps_row more) (λ r. refl) active)

  pub start_overruns : (t before : ℕ) (suspended : Bool) (priority : Option ℕ) → mode_of core t ≡ Active before suspended →
      length (priorities (kept_of core t)) ≡ 3 →
      ChangesTask core own t (Active before suspended) (event.Overrun t ∷ []) (Hears Nothing) (effect core own (action.Activate t Free Once priority))
  start_overruns t before suspended priority active three =
      subst (ChangesTask core own t (Active before suspended) (event.Overrun t ∷ []) (Hears Nothing))
      (sym (late_start t before suspended priority None active (no_room (kept_of core t) (priority_or_declared core t priority) three)))
      (lost_start t before suspended active)

  pub start_kept : (t before : ℕ) (suspended : Bool) (priority : Option ℕ) → mode_of core t ≡ Active before suspended →
      length (priorities (kept_of core t)) < 3 →
      KeepsOne core own t (priority_or_declared core t priority) (Active before suspended) (effect core own (action.Activate t Free Once priority))
  start_kept t before suspended priority active room =
      let chosen = priority_or_declared core t priority in
      let more = one_more (kept_of core t) chosen room in
      subst (KeepsOne core own t chosen (Active before suspended))
      (sym (late_start t before suspended priority (Some more.0) active more.1))
      (record {
        kept = ap priorities (kept_now acted t before suspended more.0 active) ∙ more.2;
        changes =
            subst (λ n. ChangesTask core own t (Active before suspended) (event.Kept t n ∷ []) (Hears Nothing)
            (answering (late_by (Some more.0) acted t) Nothing)) more.3 (kept_start t before suspended more.0 active);
      })

  pub start_late : (t before : ℕ) (suspended : Bool) (priority : Option ℕ) → mode_of core t ≡ Active before suspended →
      StartsLate core own t (Active before suspended) (effect core own (action.Activate t Free Once priority))
  start_late t before suspended priority active =
      let held = and_one (kept_of core t) (priority_or_declared core t priority) in
      subst (StartsLate core own t (Active before suspended)) (sym (late_start t before suspended priority held active refl)) (by_more held)
    where
      by_more : (more : Option Kept) → StartsLate core own t (Active before suspended) (answering (late_by more acted t) Nothing)
      by_more None = record { told = event.Overrun t; late = refl; changes = lost_start t before suspended active }
      by_more (Some more) = record {
        told = event.Kept t (length (priorities more));
        late = refl;
        changes = kept_start t before suspended more active;
      }

  -- MARKS OF SUSPENSION

  -- an active task's mark
  marks : (t priority : ℕ) (before suspended : Bool) → mode_of core t ≡ Active priority before →
      ChangesTask core own t (Active priority suspended) [] (Hears Nothing) (answering (with_mark acted t suspended) Nothing)
  marks t priority before suspended active =
      subst (λ mode. ChangesTask core own t (Active priority suspended) [] (Hears Nothing) (answering (with_mode acted t (marked_mode suspended mode)) Nothing))
      (sym active) (silent_change t (Active priority suspended) (Hears Nothing) [] (mode_active acted t priority before (stands_so (Active priority suspended)) (Active priority suspended) (λ r. refl) active))

  -- a dormant task has none
  marks_none : (t : ℕ) (suspended : Bool) → mode_of core t ≡ Dormant →
      ChangesTask core own t Dormant [] (Hears Nothing) (answering (with_mark acted t suspended) Nothing)
  marks_none t suspended dormant =
      subst (λ mode. ChangesTask core own t Dormant [] (Hears Nothing) (answering (with_mode acted t (marked_mode suspended mode)) Nothing))
      (sym dormant) (silent_change t Dormant (Hears Nothing) [] (mode_dormant acted t (stands_so Dormant) (λ r. refl)))

  pub suspend_suspends : (t priority : ℕ) (before : Bool) → mode_of core t ≡ Active priority before →
      ChangesTask core own t (Active priority true) [] (Hears Nothing) (effect core own (action.Suspend t))
  unfolding effect
  suspend_suspends t priority before active = marks t priority before true active

  pub continue_continues : (t priority : ℕ) (before : Bool) → mode_of core t ≡ Active priority before →
      ChangesTask core own t (Active priority false) [] (Hears Nothing) (effect core own (action.Continue t Free))
  unfolding effect
  continue_continues t priority before active = marks t priority before false active

  pub dormant_suspended : (t : ℕ) → mode_of core t ≡ Dormant → ChangesTask core own t Dormant [] (Hears Nothing) (effect core own (action.Suspend t))
  unfolding effect
  dormant_suspended t dormant = marks_none t true dormant

  pub dormant_continued : (t : ℕ) → mode_of core t ≡ Dormant → ChangesTask core own t Dormant [] (Hears Nothing) (effect core own (action.Continue t Free))
  unfolding effect
  dormant_continued t dormant = marks_none t false dormant

  -- ENDS

  -- an end, with what becomes of the starts that the task kept
  ends_so : (t : ℕ) (e : Event) (reply : Reply) →
      ChangesTask core own t (mode_behind (oldest (kept_of core t))) (e ∷ events_behind t (oldest (kept_of core t))) reply
      (leading (ended_with acted t e) reply (t ∷ []))
  ends_so t e reply = record {
    stands = ended-mode acted t e;
    others = λ u differ. ended-other acted t u e differ;
    rest = ended-rest acted t e;
    replies = refl;
  }

  -- where it kept none it is dormant
  ends_dormant : (t : ℕ) (e : Event) (reply : Reply) → kept_of core t ≡ kept.Nothing →
      ChangesTask core own t Dormant (e ∷ []) reply (leading (ended_with acted t e) reply (t ∷ []))
  ends_dormant t e reply none =
      subst (λ k. ChangesTask core own t (mode_behind (oldest k)) (e ∷ events_behind t (oldest k)) reply
      (leading (ended_with acted t e) reply (t ∷ []))) none (ends_so t e reply)

  -- else it is started with the oldest
  ends_serving : (t : ℕ) (e : Event) (reply : Reply) (first : ℕ) (others : List ℕ) → priorities (kept_of core t) ≡ first ∷ others →
      ServesFirst core own t e reply first others (leading (ended_with acted t e) reply (t ∷ []))
  ends_serving t e reply first others is =
      let next = oldest-is (kept_of core t) first others is in
      record {
        kept = ap priorities (ended-kept acted t e ∙ ap kept_behind next.1) ∙ next.2;
        changes =
            subst (λ o. ChangesTask core own t (mode_behind o) (e ∷ events_behind t o) reply
            (leading (ended_with acted t e) reply (t ∷ []))) next.1 (ends_so t e reply);
      }

  -- the end is told first
  ends_told : (t : ℕ) (e : Event) (reply : Reply) → EndsTask core own t e reply (leading (ended_with acted t e) reply (t ∷ []))
  ends_told t e reply =
      let next = oldest (kept_of core t) in
      let changes = ends_so t e reply in
      record {
        behind = events_behind t next;
        told_behind = subst (λ mode. IsToldBehind t mode (events_behind t next)) (sym (ended-mode acted t e)) (told_of next);
        changes = record { stands = refl; others = changes.others; rest = changes.rest; replies = changes.replies };
        goes_on = ended-goes_on acted t e;
        starts = ended-starts acted t e;
        ended = refl;
      }
    where
      told_of : (next : Option (ℕ × Kept)) → IsToldBehind t (mode_behind next) (events_behind t next)
      told_of None = refl
      told_of (Some (first, others)) = (refl, refl)

  -- an active task that is ended from outside
  terminated : (t priority : ℕ) (suspended : Bool) → mode_of core t ≡ Active priority suspended → t ≢ own →
      effect core own (action.Terminate t) ≡ leading (ended_with acted t (event.Stop t)) (Hears Nothing) (t ∷ [])
  unfolding effect
  terminated t priority suspended active other =
      ap₂ (λ mode is_own. leading (stopped_by mode acted t) (reply_if_other is_own) (stopped_tasks mode t)) active (ne_eqb t own other)

  -- or ends itself so
  terminated_itself : (priority : ℕ) (suspended : Bool) → mode_of core own ≡ Active priority suspended →
      effect core own (action.Terminate own) ≡ leading (ended_with acted own (event.Stop own)) Ends (own ∷ [])
  unfolding effect
  terminated_itself priority suspended active =
      ap₂ (λ mode is_own. leading (stopped_by mode acted own) (reply_if_other is_own) (stopped_tasks mode own)) active (eq-eqb own own refl)

  -- A TASK THAT KEPT NONE

  pub end_ends : kept_of core own ≡ kept.Nothing → ChangesTask core own own Dormant (event.End own ∷ []) Ends (effect core own action.End)
  unfolding effect
  end_ends none = ends_dormant own (event.End own) Ends none

  pub trap_breaks_off : (trap : traps.Trap) → kept_of core own ≡ kept.Nothing →
      ChangesTask core own own Dormant (event.Trap own trap ∷ []) Ends (effect core own (action.Trap trap))
  unfolding effect
  trap_breaks_off trap none = ends_dormant own (event.Trap own trap) Ends none

  pub terminate_stops : (t priority : ℕ) (suspended : Bool) → mode_of core t ≡ Active priority suspended → t ≢ own →
      kept_of core t ≡ kept.Nothing → ChangesTask core own t Dormant (event.Stop t ∷ []) (Hears Nothing) (effect core own (action.Terminate t))
  terminate_stops t priority suspended active other none =
      subst (ChangesTask core own t Dormant (event.Stop t ∷ []) (Hears Nothing)) (sym (terminated t priority suspended active other))
      (ends_dormant t (event.Stop t) (Hears Nothing) none)

  pub terminate_stops_itself : (priority : ℕ) (suspended : Bool) → mode_of core own ≡ Active priority suspended →
      kept_of core own ≡ kept.Nothing → ChangesTask core own own Dormant (event.Stop own ∷ []) Ends (effect core own (action.Terminate own))
  terminate_stops_itself priority suspended active none =
      subst (ChangesTask core own own Dormant (event.Stop own ∷ []) Ends) (sym (terminated_itself priority suspended active))
      (ends_dormant own (event.Stop own) Ends none)

  -- A TASK THAT KEPT SOME

  pub end_serves : (first : ℕ) (others : List ℕ) → priorities (kept_of core own) ≡ first ∷ others →
      ServesFirst core own own (event.End own) Ends first others (effect core own action.End)
  unfolding effect
  end_serves first others is = ends_serving own (event.End own) Ends first others is

  pub trap_serves : (trap : traps.Trap) (first : ℕ) (others : List ℕ) → priorities (kept_of core own) ≡ first ∷ others →
      ServesFirst core own own (event.Trap own trap) Ends first others (effect core own (action.Trap trap))
  unfolding effect
  trap_serves trap first others is = ends_serving own (event.Trap own trap) Ends first others is

  pub stop_serves : (t priority : ℕ) (suspended : Bool) → mode_of core t ≡ Active priority suspended → t ≢ own →
      (first : ℕ) (others : List ℕ) → priorities (kept_of core t) ≡ first ∷ others →
      ServesFirst core own t (event.Stop t) (Hears Nothing) first others (effect core own (action.Terminate t))
  stop_serves t priority suspended active other first others is =
      subst (ServesFirst core own t (event.Stop t) (Hears Nothing) first others) (sym (terminated t priority suspended active other))
      (ends_serving t (event.Stop t) (Hears Nothing) first others is)

  pub stop_itself_serves : (priority : ℕ) (suspended : Bool) → mode_of core own ≡ Active priority suspended →
      (first : ℕ) (others : List ℕ) → priorities (kept_of core own) ≡ first ∷ others →
      ServesFirst core own own (event.Stop own) Ends first others (effect core own (action.Terminate own))
  stop_itself_serves priority suspended active first others is =
      subst (ServesFirst core own own (event.Stop own) Ends first others) (sym (terminated_itself priority suspended active))
      (ends_serving own (event.Stop own) Ends first others is)

  -- THE END IS TOLD FIRST

  pub end_told : EndsTask core own own (event.End own) Ends (effect core own action.End)
  unfolding effect
  end_told = ends_told own (event.End own) Ends

  pub trap_told : (trap : traps.Trap) → EndsTask core own own (event.Trap own trap) Ends (effect core own (action.Trap trap))
  unfolding effect
  trap_told trap = ends_told own (event.Trap own trap) Ends

  pub stop_told : (t priority : ℕ) (suspended : Bool) → mode_of core t ≡ Active priority suspended → t ≢ own →
      EndsTask core own t (event.Stop t) (Hears Nothing) (effect core own (action.Terminate t))
  stop_told t priority suspended active other =
      subst (EndsTask core own t (event.Stop t) (Hears Nothing)) (sym (terminated t priority suspended active other))
      (ends_told t (event.Stop t) (Hears Nothing))

  pub stop_itself_told : (priority : ℕ) (suspended : Bool) → mode_of core own ≡ Active priority suspended →
      EndsTask core own own (event.Stop own) Ends (effect core own (action.Terminate own))
  stop_itself_told priority suspended active =
      subst (EndsTask core own own (event.Stop own) Ends) (sym (terminated_itself priority suspended active))
      (ends_told own (event.Stop own) Ends)

  pub dormant_stopped : (t : ℕ) → mode_of core t ≡ Dormant → t ≢ own →
      ChangesTask core own t Dormant [] (Hears Nothing) (effect core own (action.Terminate t))
  unfolding effect
  dormant_stopped t dormant other =
      subst (λ b. ChangesTask core own t Dormant [] (Hears Nothing)
      (leading (stopped_by (mode_of core t) acted t) (reply_if_other b) (stopped_tasks (mode_of core t) t)))
      (sym (ne_eqb t own other))
      (subst (λ mode. ChangesTask core own t Dormant [] (Hears Nothing) (leading (stopped_by mode acted t) (Hears Nothing) (stopped_tasks mode t)))
      (sym dormant) (no_change t Dormant (Hears Nothing) [] dormant))

-- a suspended task isn't eligible
pub suspended_waits : (core : Core) (offers : Offered) (t priority : ℕ) → mode_of core t ≡ Active priority true → is_eligible core offers t ≡ false
suspended_waits core offers t priority suspended = by_row (row_of core t) suspended
  where
    by_row : (row : Option TaskRow) → mode_of_row row ≡ Active priority true → is_ready_row row (is_possible core (offers t)) ≡ false
    by_row None is = refl
    by_row (Some row) is = ap (λ mode. is_ready mode (is_possible core (offers t))) is

-- WHICH ACTIONS END THE TASK THAT ACTS

-- an answer is no end
heard : (answer : Answer) → (Hears answer ≡ Ends) ↔ ⊥
heard answer = (no_end answer, λ never. absurd never)

-- one of the counts stands at the greatest, where not all are below it
one_at_most : (counts list : List ℕ) → all_below_most counts list ≡ false → (s : ℕ) × Contains list s × (2 ^ 31 - 1 ≤ count_at counts s)
one_at_most counts [] e = absurd (true≢false e)
one_at_most counts (first ∷ list) e = by_test (nat_lt (count_at counts first) (2 ^ 31 - 1)) refl (λ h. one_at_most counts list h)
  where
    by_test : (b : Bool) → nat_lt (count_at counts first) (2 ^ 31 - 1) ≡ b →
        (all_below_most counts list ≡ false → (s : ℕ) × Contains list s × (2 ^ 31 - 1 ≤ count_at counts s)) →
        (s : ℕ) × Contains (first ∷ list) s × (2 ^ 31 - 1 ≤ count_at counts s)
    by_test false not later = (first, here first list, ltb-false (count_at counts first) (2 ^ 31 - 1) not)
    by_test true below later =
        let found = later (sym (ap (λ b. b && all_below_most counts list) below) ∙ e) in
        (found.0, there first found.0 list found.1, found.2)

-- a release
release_ends : (core : Core) (own : ℕ) (list : List ℕ) (can_raise : Bool) → all_below_most core.counts list ≡ can_raise →
    ((releasing (record core { last = Some own }) own list can_raise).reply ≡ Ends) ↔ ((s : ℕ) × Contains list s × (2 ^ 31 - 1 ≤ count_at core.counts s))
release_ends core own list true below =
    (λ e. absurd (no_end Nothing e), λ found. absurd (true≢false (sym below ∙ not_all_below core.counts list found.0 found.1 found.2)))
release_ends core own list false not = (λ e. one_at_most core.counts list not, λ found. refl)

-- a try is answered
try_heard : (core : Core) (s : ℕ) (is_free : Bool) → ((trying core s is_free).reply ≡ Ends) ↔ ⊥
try_heard core s true = heard _
try_heard core s false = heard _

-- a task that terminates itself
terminate_ends : (t own : ℕ) → (reply_if_other (nat_eq t own) ≡ Ends) ↔ (t ≡ own)
terminate_ends t own = by_test (nat_eq t own) refl
  where
    by_test : (b : Bool) → nat_eq t own ≡ b → (reply_if_other b ≡ Ends) ↔ (t ≡ own)
    by_test true same = (λ e. eqb-true t own same, λ e. refl)
    by_test false differ = (λ e. absurd (no_end Nothing e), λ e. absurd (eqb-false t own differ e))

-- a GET ends its task where its fields aren't all there and good
get_ends : (core : Core) (own device : ℕ) (scanned : Scanned) → ((getting core own device scanned).reply ≡ Ends) ↔ (IsGot scanned → ⊥)
get_ends core own device Short = (λ e never. never, λ h. refl)
get_ends core own device (Bad used) = (λ e never. never, λ h. refl)
get_ends core own device (Got used values) = (λ e. absurd (no_end _ e), λ h. absurd (h tt))

-- and a TAKE where no value is there
take_ends : (core : Core) (own device : ℕ) (values : List Cell) → ((taking core own device values).reply ≡ Ends) ↔ (values ≡ [])
take_ends core own device [] = (λ e. refl, λ h. refl)
take_ends core own device (x ∷ others) = (λ e. absurd (no_end _ e), λ h. absurd (let never : ⊥ = cc in never))

-- every action that fits
pub effect-ends_itself : (setup : Setup) (core : Core) (own : ℕ) (action : Action) → Fits setup action →
    ((effect core own action).reply ≡ Ends) ↔ EndsItself core own action
unfolding effect
effect-ends_itself setup core own (action.Read slot) fits = heard _
effect-ends_itself setup core own (action.Write slot value) fits = heard Nothing
effect-ends_itself setup core own action.Turn fits = heard Nothing
effect-ends_itself setup core own action.Enter fits = heard Nothing
effect-ends_itself setup core own (action.Request list) fits = heard Nothing
effect-ends_itself setup core own (action.Release list) fits = release_ends core own list.items (all_below_most core.counts list.items) refl
effect-ends_itself setup core own (action.Try s) fits = try_heard (record core { last = Some own }) s (nat_lt 0 (count_at core.counts s))
effect-ends_itself setup core own (action.Activate t start repeat priority) fits = heard Nothing
effect-ends_itself setup core own (action.Continue t start) fits = heard Nothing
effect-ends_itself setup core own (action.Resume start) fits = heard Nothing
effect-ends_itself setup core own (action.Suspend t) fits = heard Nothing
effect-ends_itself setup core own (action.Terminate t) fits = terminate_ends t own
effect-ends_itself setup core own (action.Prevent t) fits = heard Nothing
effect-ends_itself setup core own (action.Enable device) fits = heard Nothing
effect-ends_itself setup core own (action.Disable device) fits = heard Nothing
effect-ends_itself setup core own (action.Trigger device) fits = heard Nothing
effect-ends_itself setup core own (action.Put device text) fits = heard Nothing
effect-ends_itself setup core own (action.Get device format kinds) fits =
    get_ends (record core { last = Some own }) own device (scan (items_of core format) kinds.items (bytes_at core device))
effect-ends_itself setup core own (action.Take device) fits = take_ends (record core { last = Some own }) own device (values_at core device)
effect-ends_itself setup core own (action.Send device value) fits = heard Nothing
effect-ends_itself setup core own action.End fits = (λ e. tt, λ e. refl)
effect-ends_itself setup core own (action.Trap trap) fits = (λ e. tt, λ e. refl)
effect-ends_itself setup core own action.Now fits = heard _
