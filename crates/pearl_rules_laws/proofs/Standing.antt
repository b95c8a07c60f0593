-- Who can act, how tasks are shown, in which order, and how they stand at the start.
use Rattle.std.proofs.Common.{◌≡◌, ◌≢◌, ◌↔◌, ℕ, zero, suc, ◌<◌, ◌≤◌, ◌⊎◌, inl, inr, List, [], ◌∷◌, ◌++◌, Bool, true, false, IsTrue, Option, Some, None, length, slice_get, map, option_map, refl, sym, ap, subst, ◌∙◌, eq-eqb, arith}
use Rattle.std.proofs.lemmas.Bool.{true≢false, ne_eqb, cases_lt}
use Rattle.std.proofs.lemmas.List.{length_push, length-map}
use Rattle.std.proofs.lemmas.Option.{slice_get-map}
use Rattle.pearl_value.specs.declared.device.Device.{Device}
use Rattle.pearl_value.specs.declared.device.Device.TheVariants as device
use Rattle.pearl_rules.specs.declared.action.Action.{Action}
use Rattle.pearl_rules.specs.declared.action.Action.TheVariants as action
use Rattle.pearl_rules.specs.declared.event.Shown.TheVariants as shown
use Rattle.pearl_rules.specs.declared.row.Kept.TheVariants as kept
use Rattle.pearl_rules.specs.declared.row.Mode.{Mode}
use Rattle.pearl_rules.specs.declared.row.Mode.TheVariants.{Dormant, Active}
use Rattle.pearl_rules.specs.declared.row.TaskRow.{TaskRow}
use Rattle.pearl_rules.specs.declared.setup.Setup.{Setup}
use Rattle.pearl_rules.specs.declared.setup.TaskEntry.{TaskEntry}
use Rattle.pearl_rules.specs.Core.{Core, Report, Shows, row_of, mode_of_row, mode_of, first_mode, first_row, first_channel, opening}
use Rattle.pearl_rules.specs.Devices.{channel_of, is_on, is_enabled}
use Rattle.pearl_rules.specs.Pick.{Offered, guard, is_possible, is_ready, is_ready_row, is_eligible, is_last_of, pick, shown_active, shown_mode, shown_row, shown_of, states_first, states}
use Rattle.pearl_rules.proofs.Offered.{picked}
use Rattle.pearl_rules_laws.specs.Laws.{CanAct, StandsAsDeclared, MayWait}

-- WHO CAN ACT

module _ (core : Core) (offers : Offered) (t : ℕ) where
  -- an eligible task can act
  pub can_act : IsTrue (is_eligible core offers t) → CanAct core offers t
  can_act able = by_row (row_of core t) refl able
    where
      by_offer : (priority : ℕ) → mode_of core t ≡ Active priority false → (offered : Option Action) →
          offers t ≡ offered → IsTrue (is_possible core offered) → CanAct core offers t
      by_offer priority is None e possible = absurd (true≢false (sym possible))
      by_offer priority is (Some action) e possible =
          record { priority = priority; action = action; stands = is; offered = e; possible = possible }

      by_mode : (mode : Mode) → mode_of core t ≡ mode → IsTrue (is_ready mode (is_possible core (offers t))) →
          CanAct core offers t
      by_mode Dormant is ready = absurd (true≢false (sym ready))
      by_mode (Active priority true) is ready = absurd (true≢false (sym ready))
      by_mode (Active priority false) is ready = by_offer priority is (offers t) refl ready

      by_row : (row : Option TaskRow) → row_of core t ≡ row → IsTrue (is_ready_row row (is_possible core (offers t))) →
          CanAct core offers t
      by_row None at ready = absurd (true≢false (sym ready))
      by_row (Some row) at ready = by_mode row.mode (ap mode_of_row at) ready

  -- an active task that isn't suspended is eligible where its action is possible
  able_if : (priority : ℕ) → mode_of core t ≡ Active priority false →
      is_eligible core offers t ≡ is_possible core (offers t)
  able_if priority is = by_row (row_of core t) is
    where
      by_row : (row : Option TaskRow) → mode_of_row row ≡ Active priority false →
          is_ready_row row (is_possible core (offers t)) ≡ is_possible core (offers t)
      by_row None none = let never : ⊥ = cc in absurd never
      by_row (Some row) here = ap (λ mode. is_ready mode (is_possible core (offers t))) here

  -- a task that can act is eligible
  pub is_able : CanAct core offers t → IsTrue (is_eligible core offers t)
  is_able acts =
      able_if acts.priority acts.stands ∙ ap (λ offered. is_possible core offered) acts.offered ∙ acts.possible

  pub eligible_acts : IsTrue (is_eligible core offers t) ↔ CanAct core offers t
  eligible_acts = (can_act, is_able)

-- every action that never waits can be done
pub others_possible : (core : Core) (asked : Action) → (MayWait asked → ⊥) → IsTrue (guard core asked)
others_possible core (action.Request list) other = absurd (other tt)
others_possible core (action.Get device format kinds) other = absurd (other tt)
others_possible core (action.Take device) other = absurd (other tt)
others_possible core asked other = refl

-- HOW TASKS ARE SHOWN

module _ (core : Core) (offers : Offered) (t : ℕ) where
  pub dormant_shown : mode_of core t ≡ Dormant → shown_of core offers t ≡ shown.Dormant
  dormant_shown is = by_row (row_of core t) is
    where
      by_row : (row : Option TaskRow) → mode_of_row row ≡ Dormant →
          shown_row row (is_possible core (offers t)) (is_last_of (pick core offers) t) ≡ shown.Dormant
      by_row None none = refl
      by_row (Some row) here =
          ap (λ mode. shown_mode mode (is_possible core (offers t)) (is_last_of (pick core offers) t)) here

  -- an active task
  active_shown : (priority : ℕ) (suspended : Bool) → mode_of core t ≡ Active priority suspended →
      shown_of core offers t
      ≡ shown_active suspended (is_possible core (offers t)) (is_last_of (pick core offers) t) priority
  active_shown priority suspended is = by_row (row_of core t) is
    where
      by_row : (row : Option TaskRow) → mode_of_row row ≡ Active priority suspended →
          shown_row row (is_possible core (offers t)) (is_last_of (pick core offers) t)
          ≡ shown_active suspended (is_possible core (offers t)) (is_last_of (pick core offers) t) priority
      by_row None none = let never : ⊥ = cc in absurd never
      by_row (Some row) here =
          ap (λ mode. shown_mode mode (is_possible core (offers t)) (is_last_of (pick core offers) t)) here

  pub suspended_shown : (priority : ℕ) → mode_of core t ≡ Active priority true →
      shown_of core offers t ≡ shown.Suspended priority
  suspended_shown priority is = active_shown priority true is

  pub blocked_shown : (priority : ℕ) → mode_of core t ≡ Active priority false → (CanAct core offers t → ⊥) →
      shown_of core offers t ≡ shown.Blocked priority
  blocked_shown priority is not = by_test (is_possible core (offers t)) refl
    where
      by_test : (possible : Bool) → is_possible core (offers t) ≡ possible →
          shown_of core offers t ≡ shown.Blocked priority
      by_test true e = absurd (not (can_act core offers t (able_if core offers t priority is ∙ e)))
      by_test false e =
          active_shown priority false is
          ∙ ap (λ possible. shown_active false possible (is_last_of (pick core offers) t) priority) e

  -- an active task that isn't suspended, where its action is possible
  possible_shown : (priority : ℕ) (chosen : Bool) → mode_of core t ≡ Active priority false →
      IsTrue (is_eligible core offers t) → is_last_of (pick core offers) t ≡ chosen →
      shown_of core offers t ≡ shown_active false true chosen priority
  possible_shown priority chosen is able e =
      active_shown priority false is
      ∙ ap (λ possible. shown_active false possible (is_last_of (pick core offers) t) priority)
      (sym (able_if core offers t priority is) ∙ able)
      ∙ ap (λ b. shown_active false true b priority) e

  pub running_shown : (priority : ℕ) → mode_of core t ≡ Active priority false → pick core offers ≡ Some t →
      shown_of core offers t ≡ shown.Running priority
  running_shown priority is chosen =
      possible_shown priority true is (picked core offers t chosen).eligible
      (ap (λ o. is_last_of o t) chosen ∙ eq-eqb t t refl)

  -- another task than this one, or none
  not_this : (o : Option ℕ) → o ≢ Some t → is_last_of o t ≡ false
  not_this None differ = refl
  not_this (Some u) differ = ne_eqb u t (λ same. differ (ap Some same))

  pub runnable_shown : (priority : ℕ) → mode_of core t ≡ Active priority false → CanAct core offers t →
      pick core offers ≢ Some t → shown_of core offers t ≡ shown.Runnable priority
  runnable_shown priority is acts other =
      possible_shown priority false is (is_able core offers t acts) (not_this (pick core offers) other)

-- THE ORDER OF STATES

-- what stands in a list stands there also where more comes behind it
in_front : {X : Type 0} (xs ys : List X) (i : ℕ) → i < length xs → slice_get (xs ++ ys) i ≡ slice_get xs i
in_front [] ys i less = let no : ⊥ = omega arith in absurd no
in_front (x ∷ xs) ys zero less = refl
in_front (x ∷ xs) ys (suc i) less = in_front xs ys i (omega arith)

-- the first behind it stands at its length
behind : {X : Type 0} (xs : List X) (y : X) → slice_get (xs ++ y ∷ []) (length xs) ≡ Some y
behind [] y = refl
behind (x ∷ xs) y = behind xs y

module _ (core : Core) (offers : Offered) where
  -- how many states there are of the first n tasks
  first_length : (n : ℕ) → length (states_first core offers n) ≡ n
  first_length zero = refl
  first_length (suc n) =
      let pushed = length_push (states_first core offers n) (core.moment, Shows n (shown_of core offers n)) in
      let before = first_length n in
      omega (arith, pushed, before)

  -- and which stands where
  first_at : (n t : ℕ) → t < n →
      slice_get (states_first core offers n) t ≡ Some (core.moment, Shows t (shown_of core offers t))
  first_at zero t less = let no : ⊥ = omega arith in absurd no
  first_at (suc n) t less = by_order (cases_lt t n) (λ before. first_at n t before)
    where
      -- the states of the first n tasks, and behind them that of task n
      all : List (ℕ × Report)
      all = states_first core offers n ++ (core.moment, Shows n (shown_of core offers n)) ∷ []

      by_order : (t < n) ⊎ (n ≤ t) →
          (t < n → slice_get (states_first core offers n) t ≡ Some (core.moment, Shows t (shown_of core offers t))) →
          slice_get all t ≡ Some (core.moment, Shows t (shown_of core offers t))
      by_order (inl before) earlier =
          in_front (states_first core offers n) ((core.moment, Shows n (shown_of core offers n)) ∷ []) t
          (subst (λ k. t < k) (sym (first_length n)) before)
          ∙ earlier before
      by_order (inr up) earlier =
          let same : n ≡ t = omega arith in
          subst (λ u. slice_get all u ≡ Some (core.moment, Shows u (shown_of core offers u))) same
          (subst (λ k. slice_get all k ≡ Some (core.moment, Shows n (shown_of core offers n))) (first_length n)
          (behind (states_first core offers n) (core.moment, Shows n (shown_of core offers n))))

  pub states_length : length (states core offers) ≡ length core.tasks
  states_length = first_length (length core.tasks)

  pub states_at : (t : ℕ) → t < length core.tasks →
      slice_get (states core offers) t ≡ Some (core.moment, Shows t (shown_of core offers t))
  states_at t less = first_at (length core.tasks) t less

-- AT THE START

pub opens_task : (setup : Setup) (t : ℕ) (task : TaskEntry) → slice_get setup.tasks t ≡ Some task →
    StandsAsDeclared (opening setup) t task
opens_task setup t task declared = record { main = λ is. begins true is; other = λ is. begins false is }
  where
    at : slice_get (map first_row setup.tasks) t ≡ Some (first_row task)
    at = slice_get-map first_row setup.tasks t ∙ ap (λ o. option_map first_row o) declared

    -- the row of a task with this word or without it
    row_with : Bool → TaskRow
    row_with main =
        record {
          mode = first_mode main task.priority;
          declared = task.priority;
          kept = kept.Nothing;
          continuation = None;
          activation = None;
        }

    begins : (main : Bool) → task.main ≡ main → row_of (opening setup) t ≡ Some (row_with main)
    begins main is = at ∙ ap (λ m. Some (row_with m)) is

pub opens_length : (setup : Setup) → length (opening setup).tasks ≡ length setup.tasks
opens_length setup = length-map setup.tasks first_row

-- how a device stands
pub opens_channel : (setup : Setup) (n : ℕ) (device : Device) → slice_get setup.devices n ≡ Some device →
    channel_of (opening setup) n ≡ Some (first_channel device)
opens_channel setup n device at = slice_get-map first_channel setup.devices n ∙ ap (option_map first_channel) at

-- an interrupt is masked
pub opens_masked : (setup : Setup) (n number : ℕ) → slice_get setup.devices n ≡ Some (device.Interrupt number) →
    is_enabled (opening setup) n ≡ false
opens_masked setup n number at = ap is_on (opens_channel setup n (device.Interrupt number) at)
