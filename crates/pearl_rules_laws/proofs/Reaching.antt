-- Which tasks an interrupt that is let through reaches, and how they stand then.
use Rattle.std.proofs.Common.{◌≡◌, ℕ, zero, suc, ◌+◌, ◌^◌, ◌<◌, ◌≤◌, ◌≢◌, List, [], ◌∷◌, ◌++◌, Bool, true, false, ◌&&◌, if◌then◌else◌, Option, Some, None, option_map, unwrap_or, length, slice_get, refl, sym, ap, ap₂, subst, ◌∙◌, append_assoc, add-zero, zero-add, arith}
use Rattle.std.proofs.lemmas.Bool.{true≢false}
use Rattle.std.proofs.lemmas.Option.{none-some, same_Some, slice_get-map}
use Rattle.pearl_rules.specs.declared.row.End.{End}
use Rattle.pearl_rules.specs.declared.row.End.TheVariants as end
use Rattle.pearl_rules.specs.declared.entry.Entry.TheVariants.{Irpt}
use Rattle.pearl_rules.specs.declared.event.Event.{Event}
use Rattle.pearl_rules.specs.declared.event.Event.TheVariants as event
use Rattle.pearl_rules.specs.declared.row.Kept.{Kept}
use Rattle.pearl_rules.specs.declared.row.Mode.{Mode}
use Rattle.pearl_rules.specs.declared.row.Mode.TheVariants.{Dormant, Active}
use Rattle.pearl_rules.specs.declared.row.Activation.{Activation}
use Rattle.pearl_rules.specs.declared.row.Plan.{Plan}
use Rattle.pearl_rules.specs.declared.row.TaskRow.{TaskRow}
use Rattle.pearl_rules.specs.Core.{Core, row_of, mode_of_row, mode_of}
use Rattle.pearl_rules.specs.Plans.{priorities, and_one, kept_in, kept_of, last_moment, begun, waits_for, serves_if, continuation_in, continuation_of, activation_in, activation_of}
use Rattle.pearl_rules.specs.Devices.{is_enabled, arrived}
use Rattle.pearl_rules.specs.Laws.{happened_at, IsLate}
use Rattle.pearl_rules.proofs.Offered.{one_more, no_room}
use Rattle.pearl_rules_laws.specs.Plans.{ServesAtOnce, IsUntouchedBy, IsTold, IsToldLate, mode_after, kept_after, late_event, start_events, all_start_events, plan_after, serves_after, goes_after, starts_after, continuation_after, activation_after, reached_row}
use Rattle.pearl_rules_laws.proofs.Steps.{mode_stays}
use Rattle.pearl_rules_laws.proofs.Planning.{plan_waits, begun_serves}
use Rattle.pearl_rules_laws.proofs.Rows.{happened_join, occurred_is}

-- a plan ends no earlier than it begins
ends_later : (core : Core) (first : ℕ) (e : End) → first < 2 ^ 64 → first ≤ last_moment core first e
ends_later core first end.Never near = omega (arith, near)
ends_later core first (end.Until time) near = omega arith
ends_later core first (end.During time) near = omega arith

-- one that begins at its interrupt serves then
serves_now : (core : Core) (plan : Plan) → core.moment < 2 ^ 64 → plan.after ≡ 0 →
    serves_if core (Some (begun core plan)) ≡ true
serves_now core plan near none =
    let first : core.moment + plan.after ≡ core.moment = omega (arith, none) in
    let last = ends_later core core.moment plan.end near in
    (begun_serves core plan core.moment).1
    ((0, omega (arith, none)), subst (λ m. core.moment ≤ last_moment core m plan.end) (sym first) last)

-- where it serves then, it begins no time after it
serves_soon : (core : Core) (plan : Plan) → serves_if core (Some (begun core plan)) ≡ true → plan.after ≡ 0
serves_soon core plan is = let count = ((begun_serves core plan core.moment).0 is).0.1 in omega (arith, count)

-- one that begins some time after it doesn't
serves_not : (core : Core) (plan : Plan) → 0 < plan.after → serves_if core (Some (begun core plan)) ≡ false
serves_not core plan some = by_test (serves_if core (Some (begun core plan))) refl
  where
    by_test : (b : Bool) → serves_if core (Some (begun core plan)) ≡ b → b ≡ false
    by_test false is = refl
    by_test true is = let none = serves_soon core plan is in absurd (omega (arith, some, none))

-- a plan with another interrupt or none doesn't wait for this one
waits_not : (device : ℕ) (plan : Plan) → plan.when ≢ Some device → waits_for device plan.when ≡ false
waits_not device plan other = by_test (waits_for device plan.when) refl
  where
    by_test : (b : Bool) → waits_for device plan.when ≡ b → b ≡ false
    by_test false is = refl
    by_test true is = absurd (other ((plan_waits device plan.when).0 is))

-- what waits for it and serves at once begins no time after it
both : (a b : Bool) → (a && b) ≡ true → (a ≡ true) × (b ≡ true)
both true b is = (refl, is)
both false b is = absurd (true≢false (sym is))

at_once : (core : Core) (device : ℕ) (plan : Plan) → serves_after core device plan ≡ true → ServesAtOnce device plan
at_once core device plan is =
    let tests = both (waits_for device plan.when) (serves_if core (Some (begun core plan))) is in
    ((plan_waits device plan.when).0 tests.0, serves_soon core plan tests.1)

serves_not_after : (core : Core) (device : ℕ) (plan : Plan) → (ServesAtOnce device plan → ⊥) →
    serves_after core device plan ≡ false
serves_not_after core device plan other = by_test (serves_after core device plan) refl
  where
    by_test : (b : Bool) → serves_after core device plan ≡ b → b ≡ false
    by_test false is = refl
    by_test true is = absurd (other (at_once core device plan is))

-- WHAT IS TOLD

-- the event of the task at place i, with those before and behind it
pub record Within (all : List Event) (e : Event) : Type 0 where
  pub front : List Event
  pub behind : List Event
  pub is : all ≡ front ++ e ∷ behind

pub event_within : (starts : TaskRow → Option ℕ) (k i : ℕ) (rows : List TaskRow) (row : TaskRow) → slice_get rows i ≡ Some row →
    (e : Event) → start_events (k + i) (starts row) row.mode row.kept ≡ e ∷ [] → Within (all_start_events starts k rows) e
event_within starts k i [] row at e is = absurd (none-some row at)
event_within starts k zero (first ∷ rows) row at e is = record {
  front = [];
  behind = all_start_events starts (k + 1) rows;
  is = ap (λ es. es ++ all_start_events starts (k + 1) rows)
      (ap₂ (λ u r. start_events u (starts r) r.mode r.kept) (sym (add-zero k)) (same_Some first row at) ∙ is);
}
event_within starts k (suc i) (first ∷ rows) row at e is =
    let place : (k + 1) + i ≡ k + suc i = omega arith in
    let later = event_within starts (k + 1) i rows row at e
    (ap (λ u. start_events u (starts row) row.mode row.kept) place ∙ is) in
    let own : List Event = start_events k (starts first) first.mode first.kept in
    record {
      front = own ++ later.front;
      behind = later.behind;
      is = ap (λ es. own ++ es) later.is ∙ sym (append_assoc own later.front (e ∷ later.behind));
    }

module _ (core : Core) (device t : ℕ) (row : TaskRow) (enabled : is_enabled core device ≡ true)
    (at : row_of core t ≡ Some row) where
  -- the row then
  pub reached_at : row_of (arrived core (Irpt device)) t ≡ Some (reached_row core device row)
  reached_at =
      ap (λ c. row_of c t) (occurred_is core device enabled)
      ∙ slice_get-map (reached_row core device) core.tasks t
      ∙ ap (λ o. option_map (reached_row core device) o) at

  mode_then : mode_of (arrived core (Irpt device)) t
      ≡ mode_after (goes_after core device row.continuation) (starts_after core device row.activation) row.mode
  mode_then = ap mode_of_row reached_at

  -- whether a plan that waits for it serves at once
  serves_as : (plan : Plan) → plan.when ≡ Some device → (b : Bool) → serves_if core (Some (begun core plan)) ≡ b →
      serves_after core device plan ≡ b
  serves_as plan waits b serves = ap₂ (λ x y. x && y) ((plan_waits device plan.when).1 waits) serves

  serves_at_once : core.moment < 2 ^ 64 → (plan : Plan) → ServesAtOnce device plan →
      serves_after core device plan ≡ true
  serves_at_once near plan soon = serves_as plan soon.0 true (serves_now core plan near soon.1)

  -- an active task that goes on or doesn't, whether or not it is to be started
  active_then : (goes : Bool) (starts : Option ℕ) (priority : ℕ) (suspended : Bool) →
      mode_after goes starts (Active priority suspended)
      ≡ mode_after goes None (Active priority suspended)
  active_then true None priority suspended = refl
  active_then true (Some other) priority suspended = refl
  active_then false None priority suspended = refl
  active_then false (Some other) priority suspended = refl

  active_at : (goes : Bool) (priority : ℕ) (suspended : Bool) → row.mode ≡ Active priority suspended →
      goes_after core device row.continuation ≡ goes →
      mode_of (arrived core (Irpt device)) t ≡ mode_after goes None (Active priority suspended)
  active_at goes priority suspended active is =
      mode_then
      ∙ ap₂ (λ b mode. mode_after b (starts_after core device row.activation) mode) is active
      ∙ active_then goes (starts_after core device row.activation) priority suspended

  pub goes_on_at : core.moment < 2 ^ 64 → (plan : Plan) (priority : ℕ) (suspended : Bool) →
      row.mode ≡ Active priority suspended →
      row.continuation ≡ Some plan → ServesAtOnce device plan →
      (mode_of (arrived core (Irpt device)) t ≡ Active priority false)
      × (continuation_of (arrived core (Irpt device)) t ≡ None)
  goes_on_at near plan priority suspended active planned soon =
      let serves = serves_at_once near plan soon in (
        active_at true priority suspended active (ap (goes_after core device) planned ∙ serves),
        ap continuation_in reached_at
            ∙ ap (continuation_after core device) planned
            ∙ ap (λ b. if b then None else Some (plan_after core device plan)) serves,
      )

  pub keeps_at : (priority : ℕ) (suspended : Bool) → row.mode ≡ Active priority suspended →
      ((plan : Plan) → row.continuation ≡ Some plan → ServesAtOnce device plan → ⊥) →
      mode_of (arrived core (Irpt device)) t ≡ Active priority suspended
  keeps_at priority suspended active other =
      active_at false priority suspended active (by_plan row.continuation refl)
    where
      by_plan : (o : Option Plan) → row.continuation ≡ o → goes_after core device o ≡ false
      by_plan None is = refl
      by_plan (Some plan) is = serves_not_after core device plan (other plan is)

  pub begins_at : (plan : Plan) → row.continuation ≡ Some plan → plan.when ≡ Some device → 0 < plan.after →
      continuation_of (arrived core (Irpt device)) t ≡ Some (begun core plan)
  begins_at plan planned waits some =
      ap continuation_in reached_at
      ∙ ap (continuation_after core device) planned
      ∙ ap₂ (λ b waits. if b then None else Some (if waits then begun core plan else plan))
      (serves_as plan waits false (serves_not core plan some))
      ((plan_waits device plan.when).1 waits)

  -- a plan of starts that serves at once
  starts_soon : core.moment < 2 ^ 64 → (activation : Activation) → row.activation ≡ Some activation →
      ServesAtOnce device activation.plan →
      starts_after core device row.activation ≡ Some activation.priority
  starts_soon near activation planned soon =
      ap (starts_after core device) planned
      ∙ ap (λ b. if b then Some activation.priority else None) (serves_at_once near activation.plan soon)

  told_at : (e : Event) → start_events t (starts_after core device row.activation) row.mode row.kept ≡ e ∷ [] →
      IsTold core (arrived core (Irpt device)) e
  told_at e is =
      let found = event_within (λ r. starts_after core device r.activation) 0 t core.tasks row at e
      (ap (λ u. start_events u (starts_after core device row.activation) row.mode row.kept) (zero-add t) ∙ is) in
      record {
        front = happened_at core.moment found.front;
        behind = happened_at core.moment found.behind;
        told = ap (λ c. c.told) (occurred_is core device enabled)
            ∙ ap (λ es. core.told ++ happened_at core.moment es) found.is
            ∙ ap (λ more. core.told ++ more) (happened_join core.moment found.front (e ∷ found.behind));
      }

  pub starts_at : core.moment < 2 ^ 64 → (activation : Activation) → row.mode ≡ Dormant →
      row.activation ≡ Some activation → ServesAtOnce device activation.plan →
      (mode_of (arrived core (Irpt device)) t ≡ Active activation.priority false)
      × IsTold core (arrived core (Irpt device)) (event.Start t activation.priority)
  starts_at near activation dormant planned soon =
      let starts = starts_soon near activation planned soon in (
        mode_then ∙ ap₂ (λ o mode. mode_after (goes_after core device row.continuation) o mode) starts dormant,
        told_at (event.Start t activation.priority) (ap₂ (λ o mode. start_events t o mode row.kept) starts dormant),
      )

  -- of an active task that is to be started, where this is what it keeps then
  late_told : core.moment < 2 ^ 64 → (activation : Activation) (priority : ℕ) (suspended : Bool) →
      row.mode ≡ Active priority suspended → row.activation ≡ Some activation →
      ServesAtOnce device activation.plan → (more : Option Kept) → and_one row.kept activation.priority ≡ more →
      IsTold core (arrived core (Irpt device)) (late_event t more)
  late_told near activation priority suspended active planned soon more is =
      told_at (late_event t more)
      (ap₂ (λ o mode. start_events t o mode row.kept) (starts_soon near activation planned soon) active
      ∙ ap (λ held. late_event t held ∷ []) is)

  pub overrun_at : core.moment < 2 ^ 64 → (activation : Activation) (priority : ℕ) (suspended : Bool) →
      row.mode ≡ Active priority suspended → row.activation ≡ Some activation →
      ServesAtOnce device activation.plan → length (priorities row.kept) ≡ 3 →
      IsTold core (arrived core (Irpt device)) (event.Overrun t)
  overrun_at near activation priority suspended active planned soon three =
      late_told near activation priority suspended active planned soon None (no_room row.kept activation.priority three)

  pub kept_at : core.moment < 2 ^ 64 → (activation : Activation) (priority : ℕ) (suspended : Bool) →
      row.mode ≡ Active priority suspended → row.activation ≡ Some activation →
      ServesAtOnce device activation.plan → length (priorities row.kept) < 3 →
      (priorities (kept_of (arrived core (Irpt device)) t) ≡ priorities row.kept ++ activation.priority ∷ [])
      × IsTold core (arrived core (Irpt device)) (event.Kept t (length (priorities row.kept) + 1))
  kept_at near activation priority suspended active planned soon room =
      let more = one_more row.kept activation.priority room in (
        ap priorities (ap kept_in reached_at
            ∙ ap₂ (λ o mode. kept_after o mode row.kept) (starts_soon near activation planned soon) active
            ∙ ap (λ held. unwrap_or held row.kept) more.1) ∙ more.2,
        subst (λ n. IsTold core (arrived core (Irpt device)) (event.Kept t n)) more.3
            (late_told near activation priority suspended active planned soon (Some more.0) more.1),
      )

  pub late_at : core.moment < 2 ^ 64 → (activation : Activation) (priority : ℕ) (suspended : Bool) →
      row.mode ≡ Active priority suspended → row.activation ≡ Some activation →
      ServesAtOnce device activation.plan → IsToldLate core (arrived core (Irpt device)) t
  late_at near activation priority suspended active planned soon =
      let more = and_one row.kept activation.priority in
      record {
        late = late_event t more;
        is_late = is_late more;
        told = late_told near activation priority suspended active planned soon more refl;
      }
    where
      is_late : (more : Option Kept) → IsLate t (late_event t more)
      is_late None = refl
      is_late (Some more) = refl

  pub later_at : (activation : Activation) → row.mode ≡ Dormant → row.activation ≡ Some activation →
      activation.plan.when ≡ Some device → 0 < activation.plan.after → mode_of (arrived core (Irpt device)) t ≡ Dormant
  later_at activation dormant planned waits some =
      mode_then
      ∙ ap₂ (λ starts mode. mode_after (goes_after core device row.continuation) starts mode)
      (ap (starts_after core device) planned
      ∙ ap (λ b. if b then Some activation.priority else None)
      (serves_as activation.plan waits false (serves_not core activation.plan some))) dormant

  pub anew_at : (activation : Activation) → row.activation ≡ Some activation →
      activation.plan.when ≡ Some device →
      activation_of (arrived core (Irpt device)) t ≡ Some (record activation { plan = begun core activation.plan })
  anew_at activation planned waits =
      ap activation_in reached_at
      ∙ ap (activation_after core device) planned
      ∙ ap (λ b. Some (record activation { plan = if b then begun core activation.plan else activation.plan }))
      ((plan_waits device activation.plan.when).1 waits)

  -- plans that don't wait for it
  quiet_continuation : (o : Option Plan) → ((plan : Plan) → o ≡ Some plan → plan.when ≢ Some device) →
      (goes_after core device o ≡ false) × (continuation_after core device o ≡ o)
  quiet_continuation None other = (refl, refl)
  quiet_continuation (Some plan) other =
      let quiet = waits_not device plan (other plan refl) in (
        ap (λ b. b && serves_if core (Some (begun core plan))) quiet,
        ap
            (λ b. if (b && serves_if core (Some (begun core plan))) then None else Some
            (if b then begun core plan else plan)) quiet,
      )

  quiet_activation : (o : Option Activation) → ((a : Activation) → o ≡ Some a → a.plan.when ≢ Some device) →
      (starts_after core device o ≡ None) × (activation_after core device o ≡ o)
  quiet_activation None other = (refl, refl)
  quiet_activation (Some a) other =
      let quiet = waits_not device a.plan (other a refl) in (
        ap (λ b. if (b && serves_if core (Some (begun core a.plan))) then Some a.priority else None) quiet,
        ap (λ b. Some (record a { plan = if b then begun core a.plan else a.plan })) quiet,
      )

  pub untouched_at : IsUntouchedBy device row → row_of (arrived core (Irpt device)) t ≡ Some row
  untouched_at untouched =
      let goes = quiet_continuation row.continuation untouched.goes_on in
      let starts = quiet_activation row.activation untouched.starts in
      reached_at
      ∙ ap₂ (λ b o. Some (reached_with (mode_after b o row.mode) (kept_after o row.mode row.kept))) goes.0 starts.0
      ∙ ap (λ mode. Some (reached_with mode row.kept)) (mode_stays row.mode)
      ∙ ap₂ (λ c a. let r : TaskRow = record row { continuation = c; activation = a } in Some r) goes.1 starts.1
    where
      -- the row then, with this mode and what is kept
      reached_with : Mode → Kept → TaskRow
      reached_with mode held = record row {
        mode = mode;
        kept = held;
        continuation = continuation_after core device row.continuation;
        activation = activation_after core device row.activation;
      }
