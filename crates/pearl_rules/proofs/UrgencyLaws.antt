-- The priorities of tasks: the declared ones stay, and all are from 1 to 255; and each plan is a lawful one.
use Rattle.std.proofs.Common.{◌≡◌, ℕ, ◌^◌, ◌<◌, ◌≤◌, inl, inr, ℤ, pos, negsuc, slice_get, List, [], ◌∷◌, Bool, true, false, Option, Some, None, IfSome, map, refl, sym, ap, subst, ◌∙◌, arith}
use Rattle.std.proofs.lemmas.Int.{ints}
use Rattle.std.specs.List.{AllByRecursion}
use Rattle.pearl_rules.specs.declared.action.Action.{Action}
use Rattle.pearl_rules.specs.declared.action.Action.TheVariants as action
use Rattle.pearl_rules.specs.declared.action.Start.{Start}
use Rattle.pearl_rules.specs.declared.action.Start.TheVariants as start
use Rattle.pearl_rules.specs.declared.action.Repeat.{Repeat}
use Rattle.pearl_rules.specs.declared.action.Repeat.TheVariants as repeat
use Rattle.pearl_rules.specs.declared.action.Repeat.TheVariants.{Once}
use Rattle.pearl_rules.specs.declared.entry.Entry.{Entry}
use Rattle.pearl_rules.specs.declared.entry.Entry.TheVariants as entry
use Rattle.pearl_rules.specs.declared.row.Mode.{Mode}
use Rattle.pearl_rules.specs.declared.row.Mode.TheVariants.{Dormant, Active}
use Rattle.pearl_rules.specs.declared.row.Kept.{Kept}
use Rattle.pearl_rules.specs.declared.row.Kept.TheVariants as kept
use Rattle.pearl_rules.specs.declared.series.Series.{Series}
use Rattle.pearl_rules.specs.declared.row.Plan.{Plan}
use Rattle.pearl_rules.specs.declared.row.Activation.{Activation}
use Rattle.pearl_rules.specs.declared.row.TaskRow.{TaskRow}
use Rattle.pearl_rules.specs.declared.setup.Setup.{Setup}
use Rattle.pearl_rules.specs.declared.setup.TaskEntry.{TaskEntry}
use Rattle.pearl_rules.specs.Tables.{IsTaskEntry, IsInterrupt}
use Rattle.pearl_rules.specs.Core.{Core, row_of, with_row, first_mode, first_row, declared_of, opening}
use Rattle.pearl_rules.specs.Plans.{priorities, milliseconds, interrupt_of, after_of, period_of, end_of, written, first_series, begun, planned, day, millisecond}
use Rattle.pearl_rules.specs.Devices.{arrived}
use Rattle.pearl_rules.specs.Effect.{declared_or_zero, priority_or_declared, effect}
use Rattle.pearl_rules.specs.Pick.{Offered, turned}
use Rattle.pearl_rules.specs.Slots.{IsUrgency, Fits, Lasts, IsStart, IsOnce, IsLater, IsRepeat, IsEnd, IsUrgentMode, IsUrgentRow, HasUrgencies, IsPlan, IsPlannedRow, HasPlans}
use Rattle.pearl_rules.specs.Entries.{IsFitting}
use Rattle.pearl_rules.proofs.Places.{each_at, all_set}
use Rattle.pearl_rules.proofs.Serving.{Stays, MayKeep, Starts, Closed, ClosedAtEnds, OnlyValues, Brings, millisecond-kept, arrived-kept, effect-free}
use Rattle.pearl_rules.proofs.EffectLaws.{AnyPriority, AnyPlan, any_continuation, any_kept, with_clock_of, arrived-leaves}
use Rattle.pearl_rules.proofs.PickLaws.{turned-is}

-- PRIORITIES

-- the mode of a task that no step ends has such a priority
urgent_mode : (before mode : Mode) → Stays IsUrgency before mode → IsUrgentMode before → IsUrgentMode mode
urgent_mode Dormant Dormant stays is = tt
urgent_mode Dormant (Active priority suspended) stays is = stays
urgent_mode (Active own before) Dormant stays is = tt
urgent_mode (Active own before) (Active priority suspended) stays is = subst IsUrgency stays is

-- and so it is of what it keeps
urgent_kept : (row : TaskRow) (mode : Mode) (held : Kept) → MayKeep IsUrgency row mode held → IsUrgentRow row →
    AllByRecursion IsUrgency (priorities held)
urgent_kept row mode held (inl same) is = subst (λ k. AllByRecursion IsUrgency (priorities k)) (sym same) is.2
urgent_kept row mode held (inr all) is = all.1

-- a task's row
urgent_at : (core : Core) (t : ℕ) (row : TaskRow) → row_of core t ≡ Some row → HasUrgencies core → IsUrgentRow row
urgent_at core t row at has = each_at IsUrgentRow core.tasks has t row at

urgent_starts : (plan : Option Activation) → IfSome plan (λ activation. IsUrgency activation.priority) → IfSome plan (Starts IsUrgency AnyPlan)
urgent_starts None is = tt
urgent_starts (Some plan) is = (is, tt)

urgent_closed : Closed IsUrgency AnyPlan HasUrgencies
urgent_closed = record {
  told = λ core e has. has;
  stands = λ core t row mode held at stays keeps has.
      let is = urgent_at core t row at has in
      all_set IsUrgentRow core.tasks has t (record row { mode = mode; kept = held })
      (is.0, urgent_mode row.mode mode stays is.1, urgent_kept row mode held keeps is, is.3);
  goes_on = λ core t row plan at lawful has. all_set IsUrgentRow core.tasks has t (record row { continuation = plan }) (urgent_at core t row at has);
  starts = λ core t row plan at lawful has.
      let is = urgent_at core t row at has in
      all_set IsUrgentRow core.tasks has t (record row { activation = Some plan }) (is.0, is.1, is.2, lawful.0);
  going = λ core t row at has. any_continuation row.continuation;
  starting = λ core t row at has. urgent_starts row.activation (urgent_at core t row at has).3;
  keeping = λ core t row at has. (urgent_at core t row at has).2;
  begins = λ core plan lawful. tt;
}

urgent_at_ends : ClosedAtEnds HasUrgencies
urgent_at_ends = record {
  ends = λ core t row at has.
      let is = urgent_at core t row at has in
      all_set IsUrgentRow core.tasks has t (record row { mode = Dormant; kept = kept.Nothing; continuation = None })
      (is.0, tt, tt, is.3);
  prevents = λ core t row at has.
      let is = urgent_at core t row at has in
      all_set IsUrgentRow core.tasks has t (record row { kept = kept.Nothing; continuation = None; activation = None })
      (is.0, is.1, tt, tt);
}

urgent_free : (core other : Core) → OnlyValues core other → HasUrgencies core → HasUrgencies other
urgent_free core other only has = subst (λ rows. AllByRecursion IsUrgentRow rows) (sym only.tasks) has

-- a start has the priority that it names, or the declared one
urgent_priority : (core : Core) → HasUrgencies core → (t : ℕ) (priority : Option ℕ) → IfSome priority IsUrgency →
    (row : TaskRow) → row_of core t ≡ Some row → IsUrgency (priority_or_declared core t priority)
urgent_priority core has t None names row e = subst (λ r. IsUrgency (declared_or_zero r)) (sym e) (urgent_at core t row e has).0
urgent_priority core has t (Some priority) names row e = names

urgent_brings : (setup : Setup) (core : Core) (asked : Action) → HasUrgencies core → Fits setup asked → Brings IsUrgency AnyPlan core asked
urgent_brings setup core (action.Activate t start repeat priority) has fits = (urgent_priority core has t priority fits.3, λ now. tt)
urgent_brings setup core (action.Continue t start) has fits = λ now. tt
urgent_brings setup core (action.Resume start) has fits = λ now. tt
urgent_brings setup core other has fits = tt

-- every action, every millisecond and whatever comes in
pub effect-urgencies : (setup : Setup) (core : Core) (own : ℕ) (action : Action) → HasUrgencies core → Fits setup action → HasUrgencies (effect core own action).core
effect-urgencies setup core own asked has fits =
    effect-free IsUrgency AnyPlan HasUrgencies urgent_closed urgent_free urgent_at_ends core own asked (urgent_brings setup core asked has fits) has

pub millisecond-urgencies : (core : Core) → HasUrgencies core → HasUrgencies (millisecond core)
millisecond-urgencies core has = millisecond-kept IsUrgency AnyPlan HasUrgencies urgent_closed core has

pub arrived-urgencies : (core : Core) (come : Entry) → HasUrgencies core → HasUrgencies (arrived core come)
arrived-urgencies core come has = arrived-kept IsUrgency AnyPlan HasUrgencies urgent_closed urgent_free core come (λ time same. has) has

-- the first rows
pub opening-urgencies : (tasks : List TaskEntry) → AllByRecursion IsTaskEntry tasks → AllByRecursion IsUrgentRow (map first_row tasks)
opening-urgencies [] all = tt
opening-urgencies (task ∷ tasks) all = ((all.0.urgent, first task.main, tt, tt), opening-urgencies tasks all.1)
  where
    first : (main : Bool) → IsUrgentMode (first_mode main task.priority)
    first true = all.0.urgent
    first false = tt

-- the first declared priorities
pub opening-declared : (tasks : List TaskEntry) → map declared_of (map first_row tasks) ≡ map (λ task. task.priority) tasks
opening-declared [] = refl
opening-declared (task ∷ tasks) = ap (λ ds. task.priority ∷ ds) (opening-declared tasks)

-- what comes in leaves the declared ones, and the moment
clock_tasks : (core : Core) (come : Entry) → (with_clock_of core come).tasks ≡ core.tasks
clock_tasks core (entry.Clock time) = refl
clock_tasks core other = refl

pub arrived-declared : (core : Core) (come : Entry) → map declared_of (arrived core come).tasks ≡ map declared_of core.tasks
arrived-declared core come = (arrived-leaves core come).declared ∙ ap (map declared_of) (clock_tasks core come)

clock_moment : (core : Core) (come : Entry) → (with_clock_of core come).moment ≡ core.moment
clock_moment core (entry.Clock time) = refl
clock_moment core other = refl

pub arrived-moment : (core : Core) (come : Entry) → (arrived core come).moment ≡ core.moment
arrived-moment core come = (arrived-leaves core come).moment ∙ clock_moment core come

-- PLANS

lawful_starts : (setup : Setup) (plan : Option Activation) → IfSome plan (λ activation. IsPlan setup activation.plan) →
    IfSome plan (Starts AnyPriority (IsPlan setup))
lawful_starts setup None is = tt
lawful_starts setup (Some plan) is = (tt, is)

-- a start without a repetition
pub once_starts : (setup : Setup) (when : Start) → IsOnce setup when → IsStart setup when
once_starts setup start.Free is = is
once_starts setup (start.At time) is = is
once_starts setup (start.After time) is = is
once_starts setup (start.When interrupt) is = is
once_starts setup (start.WhenAfter interrupt time) is = absurd is

pub later_once : (setup : Setup) (when : Start) → IsLater setup when → IsOnce setup when
later_once setup start.Free is = absurd is
later_once setup (start.At time) is = is
later_once setup (start.After time) is = is
later_once setup (start.When interrupt) is = is
later_once setup (start.WhenAfter interrupt time) is = is

-- a length of time that is lawful is at most 2^40 milliseconds
length_within : (least : ℕ) (time : ℤ) → Lasts (pos least) time → milliseconds time ≤ 2 ^ 40
length_within least (pos n) is = let high = is.1.high in omega (arith, ints, high)
length_within least (negsuc n) is = omega arith

-- a plan as it is written is lawful
lawful_written : (setup : Setup) (when : Start) (how : Repeat) → IsStart setup when → IsRepeat how →
    IsPlan setup (written when how)
lawful_written setup when how is repeats = record {
  when = interrupt when is;
  after = after when is;
  period = period how repeats;
  end = ends how repeats;
}
  where
    interrupt : (when : Start) → IsStart setup when →
        IfSome (interrupt_of when) (λ device. IsInterrupt (slice_get setup.devices device))
    interrupt (start.When device) is = is
    interrupt (start.WhenAfter device time) is = is.0
    interrupt start.Free is = tt
    interrupt (start.At time) is = tt
    interrupt (start.After time) is = tt

    after : (when : Start) → IsStart setup when → after_of when ≤ 2 ^ 40
    after (start.After time) is = length_within 0 time is
    after (start.WhenAfter device time) is = length_within 0 time is.1
    after start.Free is = omega arith
    after (start.At time) is = omega arith
    after (start.When device) is = omega arith

    period : (how : Repeat) → IsRepeat how → period_of how ≤ 2 ^ 40
    period repeat.Once is = omega arith
    period (repeat.All time) is = length_within 1 time is
    period (repeat.Until time until) is = length_within 1 time is.0
    period (repeat.During time during) is = length_within 1 time is.0

    ends : (how : Repeat) → IsRepeat how → IsEnd (end_of how)
    ends repeat.Once is = tt
    ends (repeat.All time) is = tt
    ends (repeat.Until time until) is = is.1
    ends (repeat.During time during) is = length_within 0 during is.1

module _ (setup : Setup) where
  pub plans_at : (core : Core) (t : ℕ) (row : TaskRow) → row_of core t ≡ Some row → HasPlans setup core →
      IsPlannedRow setup row
  plans_at core t row at has = each_at (IsPlannedRow setup) core.tasks has.plans t row at

  -- another row with lawful plans
  pub plans_set : (core : Core) (t : ℕ) (row : TaskRow) → IsPlannedRow setup row → HasPlans setup core →
      HasPlans setup (with_row core t row)
  plans_set core t row is has = record { plans = all_set (IsPlannedRow setup) core.tasks has.plans t row is; clock = has.clock }

  -- nothing told is a plan
  pub plans_moved : (core other : Core) → other.tasks ≡ core.tasks → other.clock ≡ core.clock → HasPlans setup core →
      HasPlans setup other
  plans_moved core other tasks clock has = record {
    plans = subst (λ rows. AllByRecursion (IsPlannedRow setup) rows) (sym tasks) has.plans;
    clock = subst (λ time. time < day) (sym clock) has.clock;
  }

  -- a series is no part of that
  pub with_series : (plan : Plan) (series : Option Series) → IsPlan setup plan →
      IsPlan setup (record plan { series = series })
  with_series plan series is = record { when = is.when; after = is.after; period = is.period; end = is.end }

  -- a plan that is made now
  pub lawful_planned : (core : Core) (when : Start) (how : Repeat) → IsStart setup when → IsRepeat how →
      IsPlan setup (planned core when how)
  lawful_planned core when how is repeats =
      with_series (written when how) (first_series core when how) (lawful_written setup when how is repeats)

  plans_closed : Closed AnyPriority (IsPlan setup) (HasPlans setup)
  plans_closed = record {
    told = λ core e has. plans_moved core _ refl refl has;
    stands = λ core t row mode held at stays keeps has.
        plans_set core t (record row { mode = mode; kept = held }) (plans_at core t row at has) has;
    goes_on = λ core t row plan at lawful has. plans_set core t (record row { continuation = plan }) (lawful, (plans_at core t row at has).1) has;
    starts = λ core t row plan at lawful has.
        plans_set core t (record row { activation = Some plan }) ((plans_at core t row at has).0, lawful.1) has;
    going = λ core t row at has. (plans_at core t row at has).0;
    starting = λ core t row at has. lawful_starts setup row.activation (plans_at core t row at has).1;
    keeping = λ core t row at has. any_kept row.kept;
    begins = λ core plan lawful. with_series plan (begun core plan).series lawful;
  }

  plans_at_ends : ClosedAtEnds (HasPlans setup)
  plans_at_ends = record {
    ends = λ core t row at has.
        plans_set core t (record row { mode = Dormant; kept = kept.Nothing; continuation = None })
        (tt, (plans_at core t row at has).1) has;
    prevents = λ core t row at has.
        plans_set core t (record row { kept = kept.Nothing; continuation = None; activation = None }) (tt, tt) has;
  }

  plans_free : (core other : Core) → OnlyValues core other → HasPlans setup core → HasPlans setup other
  plans_free core other only has = plans_moved core other only.tasks only.clock has

  plans_brings : (core : Core) (asked : Action) → Fits setup asked → Brings AnyPriority (IsPlan setup) core asked
  plans_brings core (action.Activate t start repeat priority) fits =
      (λ row at. tt, λ now. lawful_planned now start repeat fits.1 fits.2)
  plans_brings core (action.Continue t start) fits = λ now. lawful_planned now start Once
      (once_starts setup start fits.1) tt
  plans_brings core (action.Resume start) fits = λ now. lawful_planned now start Once
      (once_starts setup start (later_once setup start fits)) tt
  plans_brings core other fits = tt

  -- at the start there are no plans
  no_plans : (tasks : List TaskEntry) → AllByRecursion (IsPlannedRow setup) (map first_row tasks)
  no_plans [] = tt
  no_plans (task ∷ tasks) = ((tt, tt), no_plans tasks)

pub opening-plans : (setup : Setup) → HasPlans setup (opening setup)
opening-plans setup = record { plans = no_plans setup setup.tasks; clock = omega arith }

-- every action, every millisecond and whatever comes in
pub effect-plans : (setup : Setup) (core : Core) (own : ℕ) (action : Action) → HasPlans setup core → Fits setup action → HasPlans setup (effect core own action).core
effect-plans setup core own asked has fits =
    effect-free AnyPriority (IsPlan setup) (HasPlans setup) (plans_closed setup) (plans_free setup) (plans_at_ends setup) core own asked
    (plans_brings setup core asked fits) has

pub turned-plans : (setup : Setup) (core : Core) (offers : Offered) (t : ℕ) → HasPlans setup core → HasPlans setup (turned core offers t)
turned-plans setup core offers t has =
    plans_moved setup core (turned core offers t) (ap (λ c. c.tasks) (turned-is core offers t)) (ap (λ c. c.clock) (turned-is core offers t)) has

pub millisecond-plans : (setup : Setup) (core : Core) → HasPlans setup core → HasPlans setup (millisecond core)
millisecond-plans setup core has =
    millisecond-kept AnyPriority (IsPlan setup) (HasPlans setup) (plans_closed setup) core (plans_moved setup core _ refl refl has)

-- the time of day that an entry sets is one
pub clock_fits : (setup : Setup) (come : Entry) → IsFitting setup come → (time : ℕ) → come ≡ entry.Clock time →
    time < day
clock_fits setup come fits time same = (subst (IsFitting setup) same fits).1

pub arrived-plans : (setup : Setup) (core : Core) (come : Entry) → HasPlans setup core → IsFitting setup come → HasPlans setup (arrived core come)
arrived-plans setup core come has fits =
    arrived-kept AnyPriority (IsPlan setup) (HasPlans setup) (plans_closed setup) (plans_free setup) core come
    (λ time same. record { plans = has.plans; clock = clock_fits setup come fits time same }) has
