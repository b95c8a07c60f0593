-- What plans that serve leave as it is: the time and the number of tasks; each tells one event at most.
use Rattle.std.proofs.Common.{◌≡◌, ℕ, zero, suc, ◌+◌, ◌<◌, ◌≤◌, List, [], ◌∷◌, Bool, true, false, Option, Some, None, IfSome}
use Rattle.std.proofs.Common.{length, slice_get, slice_set, refl, sym, ◌∙◌, subst, length-set, arith, if◌then◌else◌, ◌^◌}
use Rattle.std.proofs.lemmas.List.{length-append}
use Rattle.std.specs.List.{AllByRecursion}
use Rattle.pearl_rules.specs.declared.event.Event.{Event}
use Rattle.pearl_rules.specs.declared.event.Event.TheVariants as event
use Rattle.pearl_rules.specs.declared.row.Kept.{Kept}
use Rattle.pearl_rules.specs.declared.row.Kept.TheVariants as kept
use Rattle.pearl_rules.specs.declared.row.Mode.{Mode}
use Rattle.pearl_rules.specs.declared.row.Mode.TheVariants.{Dormant, Active}
use Rattle.pearl_rules.specs.declared.row.Plan.{Plan}
use Rattle.pearl_rules.specs.declared.row.Activation.{Activation}
use Rattle.pearl_rules.specs.declared.row.TaskRow.{TaskRow}
use Rattle.pearl_rules.specs.Core.{Core, note, row_of, with_row, mode_of}
use Rattle.pearl_rules.specs.Plans.{on_row, changed_row, with_mode, with_continuation, with_activation, marked_mode, with_mark}
use Rattle.pearl_rules.specs.Plans.{priorities, and_one, kept_of, with_kept, made_active, late_by, started_by, started, serves_if, continued, continuation_in, continuation_of, activation_in, activation_of}
use Rattle.pearl_rules.specs.Plans.{serve_continuation, serve_activation_by, serve_activation, plan_continuation, plan_activation}
use Rattle.pearl_rules.specs.Plans.{each_task, served, millisecond, waits_for, begun, begin_continuation, begin_activation}
use Rattle.pearl_rules.specs.Plans.{continuation_began, reached, occurred}
use Rattle.pearl_rules.specs.Devices.{is_enabled, interrupted}
use Rattle.pearl_kernel.specs.Timing.{IsTimely, IsTimelyRow, IsTimelyPlan}

-- the time and the number of tasks are the same, so many events at most are told, and plans have lengths of time as before
pub record Keeps (events : ℕ) (core after : Core) : Type 0 where
  pub moment : after.moment ≡ core.moment
  pub clock : after.clock ≡ core.clock
  pub size : length after.tasks ≡ length core.tasks
  pub told : length after.told ≤ length core.told + events
  pub plans : AllByRecursion IsTimelyRow core.tasks → AllByRecursion IsTimelyRow after.tasks

pub keeps-same : (core : Core) → Keeps 0 core core
keeps-same core = record { moment = refl; clock = refl; size = refl; told = omega arith; plans = λ all. all }

pub keeps-then : (m n : ℕ) (core mid after : Core) → Keeps m core mid → Keeps n mid after → Keeps (m + n) core after
keeps-then m n core mid after a b =
    let x = a.told in let y = b.told in
    record {
      moment = b.moment ∙ a.moment;
      clock = b.clock ∙ a.clock;
      size = b.size ∙ a.size;
      told = omega (arith, x, y);
      plans = λ all. b.plans (a.plans all);
    }

pub keeps-more : (m n : ℕ) (core after : Core) → m ≤ n → Keeps m core after → Keeps n core after
keeps-more m n core after less a =
    let x = a.told in
    record { moment = a.moment; clock = a.clock; size = a.size; told = omega (arith, x, less); plans = a.plans }

pub keeps-timely : (n : ℕ) (core after : Core) → Keeps n core after → IsTimely core → IsTimely after
keeps-timely n core after a timely = record {
  moment = subst (λ m. m ≤ 2 ^ 40) (sym a.moment) timely.moment;
  clock = subst (λ m. m < 86400000) (sym a.clock) timely.clock;
  plans = a.plans timely.plans;
}

-- ROWS

pub all-at : (rows : List TaskRow) (t : ℕ) (row : TaskRow) → AllByRecursion IsTimelyRow rows →
    slice_get rows t ≡ Some row → IsTimelyRow row
all-at [] t row all e = absurd cc
all-at (x ∷ rows) zero row all e =
    let same : x ≡ row = cc in subst IsTimelyRow same all.0
all-at (x ∷ rows) (suc t) row all e = all-at rows t row all.1 e

pub all-set : (rows : List TaskRow) (t : ℕ) (row : TaskRow) → AllByRecursion IsTimelyRow rows → IsTimelyRow row →
    AllByRecursion IsTimelyRow (slice_set rows t row)
all-set [] t row all is = all
all-set (x ∷ rows) zero row all is = (is, all.1)
all-set (x ∷ rows) (suc t) row all is = (all.0, all-set rows t row all.1 is)

keeps-row : (core : Core) (t : ℕ) (change : TaskRow → TaskRow) →
    ((row : TaskRow) → row_of core t ≡ Some row → IsTimelyRow row → IsTimelyRow (change row)) → Keeps 0 core (changed_row core t change)
keeps-row core t change kept = by_row (row_of core t) refl
  where
    by_row : (row : Option TaskRow) → row_of core t ≡ row →
        Keeps 0 core (on_row row core (λ r. with_row core t (change r)))
    by_row None e = keeps-same core
    by_row (Some row) e = record {
      moment = refl;
      clock = refl;
      size = length-set core.tasks t (change row);
      told = omega arith;
      plans = λ all. all-set core.tasks t (change row) all (kept row e (all-at core.tasks t row all e));
    }

pub keeps-mode : (core : Core) (t : ℕ) (mode : Mode) → Keeps 0 core (with_mode core t mode)
keeps-mode core t mode = keeps-row core t (λ row. record row { mode = mode }) (λ row e is. is)

pub keeps-mark : (core : Core) (t : ℕ) (suspended : Bool) → Keeps 0 core (with_mark core t suspended)
keeps-mark core t suspended = keeps-mode core t (marked_mode suspended (mode_of core t))

pub keeps-continuation : (core : Core) (t : ℕ) (plan : Option Plan) → IfSome plan IsTimelyPlan →
    Keeps 0 core (with_continuation core t plan)
keeps-continuation core t plan is = keeps-row core t (λ row. record row { continuation = plan }) (λ row e all. (is, all.1))

pub keeps-activation : (core : Core) (t : ℕ) (activation : Option Activation) → IfSome activation (λ a. IsTimelyPlan a.plan) →
    Keeps 0 core (with_activation core t activation)
keeps-activation core t activation is =
    keeps-row core t (λ row. record row { activation = activation }) (λ row e all. (all.0, is))

keeps-note : (core : Core) (event : Event) → Keeps 1 core (note core event)
keeps-note core event = record {
  moment = refl;
  clock = refl;
  size = refl;
  told = grind (arith, length-append core.told);
  plans = λ all. all;
}

-- PLANS THAT SERVE

keeps-made_active : (core : Core) (t priority : ℕ) (held : Kept) → Keeps 1 core (made_active core t priority held)
keeps-made_active core t priority held =
    let active = changed_row core t (λ row. record row { mode = Active priority false; kept = held }) in
    keeps-then 0 1 core active (note active (event.Start t priority))
    (keeps-row core t (λ row. record row { mode = Active priority false; kept = held }) (λ row e is. is))
    (keeps-note active (event.Start t priority))

keeps-late : (core : Core) (t : ℕ) (more : Option Kept) → Keeps 1 core (late_by more core t)
keeps-late core t None = keeps-note core (event.Overrun t)
keeps-late core t (Some held) =
    let told = event.Kept t (length (priorities held)) in
    keeps-then 0 1 core (with_kept core t held) (note (with_kept core t held) told)
    (keeps-row core t (λ row. record row { kept = held }) (λ row e is. is)) (keeps-note (with_kept core t held) told)

pub keeps-started : (core : Core) (t priority : ℕ) → Keeps 1 core (started core t priority)
keeps-started core t priority = by_mode (mode_of core t)
  where
    by_mode : (mode : Mode) → Keeps 1 core (started_by mode core t priority)
    by_mode Dormant = keeps-made_active core t priority kept.Nothing
    by_mode (Active own suspended) = keeps-late core t (and_one (kept_of core t) priority)

pub keeps-serve_continuation : (core : Core) (t : ℕ) → Keeps 0 core (serve_continuation core t)
keeps-serve_continuation core t = by_test (serves_if core (continuation_of core t))
  where
    by_test : (serves : Bool) → Keeps 0 core (if serves then continued core t else core)
    by_test true =
        let marked = with_mark core t false in
        keeps-then 0 0 core marked (with_continuation marked t None) (keeps-mark core t false)
        (keeps-continuation marked t None tt)
    by_test false = keeps-same core

pub keeps-serve_activation : (core : Core) (t : ℕ) → Keeps 1 core (serve_activation core t)
keeps-serve_activation core t = by_plan (activation_of core t)
  where
    by_test : (activation : Activation) (serves : Bool) →
        Keeps 1 core (if serves then started core t activation.priority else core)
    by_test activation true = keeps-started core t activation.priority
    by_test activation false = keeps-more 0 1 core core (omega arith) (keeps-same core)

    by_plan : (activation : Option Activation) → Keeps 1 core (serve_activation_by activation core t)
    by_plan None = keeps-more 0 1 core core (omega arith) (keeps-same core)
    by_plan (Some activation) = by_test activation (serves_if core (Some activation.plan))

pub keeps-plan_continuation : (core : Core) (t : ℕ) (plan : Plan) → IsTimelyPlan plan →
    Keeps 0 core (plan_continuation core t plan)
keeps-plan_continuation core t plan is =
    let with = with_continuation core t (Some plan) in
    keeps-then 0 0 core with (serve_continuation with t) (keeps-continuation core t (Some plan) is)
    (keeps-serve_continuation with t)

pub keeps-plan_activation : (core : Core) (t : ℕ) (activation : Activation) → IsTimelyPlan activation.plan →
    Keeps 1 core (plan_activation core t activation)
keeps-plan_activation core t activation is =
    let with = with_activation core t (Some activation) in
    keeps-then 0 1 core with (serve_activation with t) (keeps-activation core t (Some activation) is)
    (keeps-serve_activation with t)

pub keeps-served : (core : Core) (t : ℕ) → Keeps 1 core (served core t)
keeps-served core t = keeps-then 0 1 core (serve_continuation core t) (served core t) (keeps-serve_continuation core t)
    (keeps-serve_activation (serve_continuation core t) t)

-- INTERRUPTS

pub timely-continuation : (core : Core) (t : ℕ) (plan : Plan) → AllByRecursion IsTimelyRow core.tasks →
    continuation_of core t ≡ Some plan → IsTimelyPlan plan
timely-continuation core t plan all is = by_row (row_of core t) refl is
  where
    by_row : (row : Option TaskRow) → row_of core t ≡ row → continuation_in row ≡ Some plan → IsTimelyPlan plan
    by_row None e h = absurd cc
    by_row (Some row) e h =
        subst (λ p. IfSome p IsTimelyPlan) h (all-at core.tasks t row all e).0

pub timely-activation : (core : Core) (t : ℕ) (activation : Activation) → AllByRecursion IsTimelyRow core.tasks →
    activation_of core t ≡ Some activation → IsTimelyPlan activation.plan
timely-activation core t activation all is = by_row (row_of core t) refl is
  where
    by_row : (row : Option TaskRow) → row_of core t ≡ row → activation_in row ≡ Some activation → IsTimelyPlan activation.plan
    by_row None e h = absurd cc
    by_row (Some row) e h =
        subst (λ p. IfSome p (λ a. IsTimelyPlan a.plan)) h (all-at core.tasks t row all e).1

module _ (interrupt : ℕ) (core : Core) (t : ℕ) (all : AllByRecursion IsTimelyRow core.tasks) where
  pub keeps-continuation_began : Keeps 0 core (continuation_began interrupt core t)
  keeps-continuation_began = by_plan (continuation_of core t) refl
    where
      by_test : (plan : Plan) (waits : Bool) → continuation_of core t ≡ Some plan →
          Keeps 0 core (if waits then plan_continuation core t (begun core plan) else core)
      by_test plan true e =
          keeps-plan_continuation core t (begun core plan) (timely-continuation core t plan all e)
      by_test plan false e = keeps-same core

      by_plan : (plan : Option Plan) → continuation_of core t ≡ plan → Keeps 0 core (begin_continuation interrupt plan core t)
      by_plan None e = keeps-same core
      by_plan (Some plan) e = by_test plan (waits_for interrupt plan.when) e

  pub keeps-begin_activation : Keeps 1 core (begin_activation interrupt (activation_of core t) core t)
  keeps-begin_activation = by_plan (activation_of core t) refl
    where
      by_test : (activation : Activation) (waits : Bool) → activation_of core t ≡ Some activation →
          Keeps 1 core (if waits then plan_activation core t (record activation { plan = begun core activation.plan }) else core)
      by_test activation true e = keeps-plan_activation core t (record activation { plan = begun core activation.plan })
          (timely-activation core t activation all e)
      by_test activation false e = keeps-more 0 1 core core (omega arith) (keeps-same core)

      by_plan : (activation : Option Activation) → activation_of core t ≡ activation →
          Keeps 1 core (begin_activation interrupt activation core t)
      by_plan None e = keeps-more 0 1 core core (omega arith) (keeps-same core)
      by_plan (Some activation) e = by_test activation (waits_for interrupt activation.plan.when) e

pub keeps-reached : (interrupt : ℕ) (core : Core) (t : ℕ) → AllByRecursion IsTimelyRow core.tasks →
    Keeps 1 core (reached interrupt core t)
keeps-reached interrupt core t all =
    let after = continuation_began interrupt core t in
    let keeps = keeps-continuation_began interrupt core t all in
    keeps-then 0 1 core after (reached interrupt core t) keeps (keeps-begin_activation interrupt after t (keeps.plans all))

-- EACH TASK

pub keeps-all_served : (n : ℕ) (core : Core) → Keeps n core (each_task served n core)
keeps-all_served zero core = keeps-same core
keeps-all_served (suc n) core =
    let before = each_task served n core in
    keeps-more (n + 1) (suc n) core (served before n) (omega arith)
    (keeps-then n 1 core before (served before n) (keeps-all_served n core) (keeps-served before n))

pub keeps-all_reached : (interrupt n : ℕ) (core : Core) → AllByRecursion IsTimelyRow core.tasks →
    Keeps n core (each_task (reached interrupt) n core)
keeps-all_reached interrupt zero core all = keeps-same core
keeps-all_reached interrupt (suc n) core all =
    let before = each_task (reached interrupt) n core in
    let keeps = keeps-all_reached interrupt n core all in
    keeps-more (n + 1) (suc n) core (reached interrupt before n) (omega arith)
    (keeps-then n 1 core before (reached interrupt before n) keeps (keeps-reached interrupt before n (keeps.plans all)))

pub keeps-millisecond : (core : Core) →
    Keeps (length core.tasks) (record core { moment = core.moment + 1 }) (millisecond core)
keeps-millisecond core = keeps-all_served (length core.tasks) (record core { moment = core.moment + 1 })

pub timely-millisecond : (core : Core) → core.moment + 1 ≤ 2 ^ 40 → IsTimely core → IsTimely (millisecond core)
timely-millisecond core later timely =
    let next : Core = record core { moment = core.moment + 1 } in
    keeps-timely (length core.tasks) next (millisecond core) (keeps-millisecond core)
    (record { moment = later; clock = timely.clock; plans = timely.plans })

pub keeps-interrupted : (core : Core) (device : ℕ) → AllByRecursion IsTimelyRow core.tasks →
    Keeps (length core.tasks + 1) core (interrupted core device)
keeps-interrupted core device all = by_test (is_enabled core device)
  where
    by_test : (enabled : Bool) →
        Keeps (length core.tasks + 1) core (if enabled then occurred core device else note core (event.Masked device))
    by_test true = keeps-more (length core.tasks) (length core.tasks + 1) core (occurred core device) (omega arith)
        (keeps-all_reached device (length core.tasks) core all)
    by_test false = keeps-more 1 (length core.tasks + 1) core (note core (event.Masked device)) (omega arith)
        (keeps-note core (event.Masked device))

-- AT THE TURN OF A TASK

-- it is there
pub turn-there : (t count : ℕ) (start core : Core) → Keeps t start core → t < count → count ≡ length start.tasks →
    t < length core.tasks
turn-there t count start core keeps before all = let size = keeps.size in omega (arith, size, before, all)

-- and there is room for an event more
pub turn-room : (t count : ℕ) (start core : Core) → Keeps t start core → t < count → count ≡ length start.tasks →
    length start.tasks ≤ 200 → start.told ≡ [] → length core.told < 200
turn-room t count start core keeps before all few none =
    let told = subst (λ xs. length core.told ≤ length xs + t) none keeps.told in
    omega (arith, told, before, all, few)
