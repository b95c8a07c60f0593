-- A dormant task has no plan to go on and keeps no start, and the plans of tasks have series with near moments.
use Rattle.std.proofs.Common.{◌≡◌, ℕ, ◌+◌, ◌^◌, ◌≤◌, inl, inr, List, [], ◌∷◌, true, Option, Some, None, IfSome, IsSome, map, refl, sym, ap, subst, ◌∙◌, arith}
use Rattle.std.specs.List.{AllByRecursion}
use Rattle.std.proofs.lemmas.Bool.{true≢false}
use Rattle.std.proofs.lemmas.Option.{none-some, same_Some}
use Rattle.pearl_rules.specs.declared.action.Action.{Action}
use Rattle.pearl_rules.specs.declared.action.Action.TheVariants as action
use Rattle.pearl_rules.specs.declared.action.Start.{Start}
use Rattle.pearl_rules.specs.declared.action.Start.TheVariants as start
use Rattle.pearl_rules.specs.declared.action.Repeat.{Repeat}
use Rattle.pearl_rules.specs.declared.action.Repeat.TheVariants.{Once}
use Rattle.pearl_rules.specs.declared.entry.Entry.{Entry}
use Rattle.pearl_rules.specs.declared.row.Mode.{Mode}
use Rattle.pearl_rules.specs.declared.row.Mode.TheVariants.{Dormant, Active}
use Rattle.pearl_rules.specs.declared.row.Kept.{Kept}
use Rattle.pearl_rules.specs.declared.row.Kept.TheVariants as kept
use Rattle.pearl_rules.specs.declared.row.Plan.{Plan}
use Rattle.pearl_rules.specs.declared.row.Activation.{Activation}
use Rattle.pearl_rules.specs.declared.row.TaskRow.{TaskRow}
use Rattle.pearl_rules.specs.declared.setup.Setup.{Setup}
use Rattle.pearl_rules.specs.declared.setup.TaskEntry.{TaskEntry}
use Rattle.pearl_rules.specs.Core.{Core, row_of, with_row, mode_of_row, is_active_mode, is_active_row, is_active, first_row, opening}
use Rattle.pearl_rules.specs.Plans.{on_row, marked_mode, with_mark, interrupt_of, begun, first_series, planned, millisecond}
use Rattle.pearl_rules.specs.Devices.{arrived}
use Rattle.pearl_rules.specs.Effect.{effect}
use Rattle.pearl_rules.specs.Pick.{Offered, turned}
use Rattle.pearl_rules.specs.Slots.{Fits, IsStart, IsRepeat, IsPlan, IsPlannedRow, IsTimed, IsTimedRow, HasTimes}
use Rattle.pearl_rules.specs.Entries.{IsFitting}
use Rattle.pearl_rules.proofs.Places.{each_at, all_set, set-same}
use Rattle.pearl_rules.proofs.Serving.{Stays, MayKeep, Starts, Goes, ClosedFor, ClosedAtEnds, OnlyValues, BringsTo, effect-stays, millisecond-keeps, arrived-keeps}
use Rattle.pearl_rules.proofs.EffectLaws.{AnyPriority, any_kept}
use Rattle.pearl_rules.proofs.PickLaws.{turned-is}
use Rattle.pearl_rules.proofs.UrgencyLaws.{lawful_planned, once_starts, later_once, with_series, plans_set, plans_moved, plans_at, opening-plans, clock_fits}

-- PLANS

-- a plan to go on is one of an active task
abbrev IsActive : Mode → Type 0
IsActive mode = is_active_mode mode ≡ true

dormant_not : (mode : Mode) → mode ≡ Dormant → IsActive mode → ⊥
dormant_not mode is active = true≢false (sym active ∙ ap is_active_mode is)

active_goes : (row : TaskRow) → IsTimedRow row → (plan : Plan) → row.continuation ≡ Some plan → IsActive row.mode
active_goes row timed plan is = by_mode row.mode refl
  where
    by_mode : (mode : Mode) → row.mode ≡ mode → IsActive mode
    by_mode Dormant same = absurd (none-some plan (sym (timed.dormant same) ∙ is))
    by_mode (Active priority suspended) same = refl

-- a task that stays as dormant as it was
still_dormant : (before mode : Mode) → Stays AnyPriority before mode → mode ≡ Dormant → before ≡ Dormant
still_dormant Dormant mode stays is = refl
still_dormant (Active own before) Dormant stays is = absurd stays
still_dormant (Active own before) (Active priority suspended) stays is = absurd
    (dormant_not (Active priority suspended) is refl)

-- keeps none where it kept none
still_none : (row : TaskRow) (mode : Mode) (held : Kept) → IsTimedRow row → Stays AnyPriority row.mode mode →
    MayKeep AnyPriority row mode held → mode ≡ Dormant → held ≡ kept.Nothing
still_none row mode held timed stays (inl same) is = same ∙ timed.keeps_none (still_dormant row.mode mode stays is)
still_none row mode held timed stays (inr active) is = absurd (dormant_not mode is active.0)

module _ (setup : Setup) where
  -- a lawful plan with such moments
  abbrev IsGood : Plan → Type 0
  IsGood plan = IsPlan setup plan × IsTimed plan

  good_begun : (core : Core) (plan : Plan) → HasTimes setup core → IsGood plan → IsGood (begun core plan)
  good_begun core plan has good =
      let after = good.0.after in
      let moment = has.moment in (
        with_series setup plan (begun core plan).series good.0,
        record {
          has = λ none. refl;
          near = (omega (arith, after, moment), good.0.period);
        },
      )

  -- a plan that is made now
  good_planned : (core : Core) (when : Start) (how : Repeat) → IsStart setup when → IsRepeat how → HasTimes setup core →
      IsGood (planned core when how)
  good_planned core when how is repeats has =
      let lawful = lawful_planned setup core when how is repeats in
      (lawful, record { has = begins when; near = near when lawful.after lawful.period })
    where
      moment : core.moment ≤ 2 ^ 40
      moment = has.moment

      begins : (when : Start) → interrupt_of when ≡ None → IsSome (first_series core when how)
      begins start.Free none = refl
      begins (start.At time) none = refl
      begins (start.After time) none = refl
      begins (start.When device) none = absurd (none-some device (sym none))
      begins (start.WhenAfter device time) none = absurd (none-some device (sym none))

      near : (when : Start) → (planned core when how).after ≤ 2 ^ 40 → (planned core when how).period ≤ 2 ^ 40 →
          IfSome (first_series core when how) (λ series. (series.first ≤ 2 ^ 42) × (series.period ≤ 2 ^ 40))
      near start.Free after period = (omega (arith, moment), period)
      near (start.At time) after period = (omega (arith, moment), period)
      near (start.After time) after period = (omega (arith, moment, after), period)
      near (start.When device) after period = tt
      near (start.WhenAfter device time) after period = tt

  -- ROWS

  row_at : (core : Core) (t : ℕ) (row : TaskRow) → row_of core t ≡ Some row → HasTimes setup core → IsTimedRow row
  row_at core t row at has = each_at IsTimedRow core.tasks has.rows t row at

  row_set : (core : Core) (t : ℕ) (row : TaskRow) → IsPlannedRow setup row → IsTimedRow row → HasTimes setup core →
      HasTimes setup (with_row core t row)
  row_set core t row lawful timed has = record {
    moment = has.moment;
    lawful = plans_set setup core t row lawful has.lawful;
    rows = all_set IsTimedRow core.tasks has.rows t row timed;
  }

  moved : (core other : Core) → other.moment ≤ 2 ^ 40 → other.tasks ≡ core.tasks → other.clock ≡ core.clock →
      HasTimes setup core →
      HasTimes setup other
  moved core other near tasks clock has = record {
    moment = near;
    lawful = plans_moved setup core other tasks clock has.lawful;
    rows = subst (λ rows. AllByRecursion IsTimedRow rows) (sym tasks) has.rows;
  }

  with_plan : (row : TaskRow) (plan : Option Plan) → IfSome plan (Goes IsGood IsActive row.mode) →
      IsPlannedRow setup row → IsTimedRow row →
      IsPlannedRow setup (record row { continuation = plan }) × IsTimedRow (record row { continuation = plan })
  with_plan row None goes lawful timed = (
    (tt, lawful.1),
    record {
      dormant = λ is. refl;
      keeps_none = timed.keeps_none;
      goes_on = tt;
      starts = timed.starts;
    },
  )
  with_plan row (Some plan) goes lawful timed = (
    (goes.0.0, lawful.1),
    record {
      dormant = λ is. absurd (dormant_not row.mode is goes.1);
      keeps_none = timed.keeps_none;
      goes_on = goes.0.1;
      starts = timed.starts;
    },
  )

  both_goes : (row : TaskRow) (plan : Option Plan) → row.continuation ≡ plan → IfSome plan (IsPlan setup) →
      IfSome plan IsTimed →
      IsTimedRow row → IfSome plan (Goes IsGood IsActive row.mode)
  both_goes row None is lawful near timed = tt
  both_goes row (Some plan) is lawful near timed = ((lawful, near), active_goes row timed plan is)

  both_starts : (plan : Option Activation) → IfSome plan (λ activation. IsPlan setup activation.plan) →
      IfSome plan (λ activation. IsTimed activation.plan) → IfSome plan (Starts AnyPriority IsGood)
  both_starts None lawful near = tt
  both_starts (Some plan) lawful near = (tt, (lawful, near))

  times_closed : ClosedFor AnyPriority IsGood IsActive (HasTimes setup)
  times_closed = record {
    told = λ core e has. moved core _ has.moment refl refl has;
    stands = λ core t row mode held at stays keeps has.
        let timed = row_at core t row at has in
        row_set core t (record row { mode = mode; kept = held }) (plans_at setup core t row at has.lawful) (record {
          dormant = λ is. timed.dormant (still_dormant row.mode mode stays is);
          keeps_none = still_none row mode held timed stays keeps;
          goes_on = timed.goes_on;
          starts = timed.starts;
        }) has;
    goes_on = λ core t row plan at goes has.
        let both = with_plan row plan goes (plans_at setup core t row at has.lawful) (row_at core t row at has) in
        row_set core t (record row { continuation = plan }) both.0 both.1 has;
    starts = λ core t row plan at good has.
        let timed = row_at core t row at has in
        row_set core t (record row { activation = Some plan }) ((plans_at setup core t row at has.lawful).0, good.1.0)
        (record { dormant = timed.dormant; keeps_none = timed.keeps_none; goes_on = timed.goes_on; starts = good.1.1 }) has;
    going = λ core t row at has.
        let timed = row_at core t row at has in
        both_goes row row.continuation refl (plans_at setup core t row at has.lawful).0 timed.goes_on timed;
    starting = λ core t row at has.
        both_starts row.activation (plans_at setup core t row at has.lawful).1 (row_at core t row at has).starts;
    keeping = λ core t row at has. any_kept row.kept;
    begins = λ core plan has good. good_begun core plan has good;
    active = λ mode is. is;
  }

  times_at_ends : ClosedAtEnds (HasTimes setup)
  times_at_ends = record {
    ends = λ core t row at has.
        row_set core t (record row { mode = Dormant; kept = kept.Nothing; continuation = None })
        (tt, (plans_at setup core t row at has.lawful).1)
        (record { dormant = λ is. refl; keeps_none = λ is. refl; goes_on = tt; starts = (row_at core t row at has).starts }) has;
    prevents = λ core t row at has.
        row_set core t (record row { kept = kept.Nothing; continuation = None; activation = None }) (tt, tt)
        (record { dormant = λ is. refl; keeps_none = λ is. refl; goes_on = tt; starts = tt }) has;
  }

  times_free : (core other : Core) → OnlyValues core other → HasTimes setup core → HasTimes setup other
  times_free core other only has =
      moved core other (subst (λ m. m ≤ 2 ^ 40) (sym only.moment) has.moment) only.tasks only.clock has

  times_brings : (core : Core) (asked : Action) → Fits setup asked →
      BringsTo AnyPriority IsGood (HasTimes setup) core asked
  times_brings core (action.Activate t when how priority) fits =
      (λ row at. tt, λ now has. good_planned now when how fits.1 fits.2 has)
  times_brings core (action.Continue t when) fits = λ now has. good_planned now when Once
      (once_starts setup when fits.1) tt has
  times_brings core (action.Resume when) fits =
      λ now has. good_planned now when Once (once_starts setup when (later_once setup when fits)) tt has
  times_brings core other fits = tt

  -- an active task that suspends itself is still active
  active_resumes : (core : Core) (own : ℕ) → is_active core own ≡ true →
      (row : TaskRow) → row_of (with_mark core own true) own ≡ Some row → IsActive row.mode
  active_resumes core own active row at = by_row (row_of core own) refl
    where
      marked : (mode : Mode) → IsActive mode → IsActive (marked_mode true mode)
      marked Dormant is = is
      marked (Active priority suspended) is = refl

      by_row : (before : Option TaskRow) → row_of core own ≡ before → IsActive row.mode
      by_row None is = absurd (true≢false (sym active ∙ ap is_active_row is))
      by_row (Some before) is =
          let new : TaskRow = record before { mode = marked_mode true before.mode } in
          let marks : with_mark core own true ≡ with_row core own new =
          ap (λ o. on_row o core (λ r. with_row core own (record r { mode = marked_mode true (mode_of_row o) }))) is in
          let there = set-same core.tasks own before new is in
          let same : new ≡ row = same_Some new row (sym there ∙ sym (ap (λ c. row_of c own) marks) ∙ at) in
          subst (λ r. IsActive r.mode) same (marked before.mode (sym (ap is_active_row is) ∙ active))

  -- at the start there are no plans
  no_rows : (tasks : List TaskEntry) → AllByRecursion IsTimedRow (map first_row tasks)
  no_rows [] = tt
  no_rows (task ∷ tasks) = (record { dormant = λ is. refl; keeps_none = λ is. refl; goes_on = tt; starts = tt }, no_rows tasks)

pub opening-times : (setup : Setup) → HasTimes setup (opening setup)
opening-times setup = record { moment = omega arith; lawful = opening-plans setup; rows = no_rows setup setup.tasks }

-- every action of an active task, every turn, every millisecond and whatever comes in
pub effect-times : (setup : Setup) (core : Core) (own : ℕ) (action : Action) → is_active core own ≡ true →
    HasTimes setup core →
    Fits setup action → HasTimes setup (effect core own action).core
effect-times setup core own asked active has fits =
    effect-stays AnyPriority (IsGood setup) IsActive (HasTimes setup) (times_closed setup) (times_free setup)
    (times_at_ends setup) core own asked
    (times_brings setup core asked fits) (active_resumes setup (record core { last = Some own }) own active) has

pub turned-times : (setup : Setup) (core : Core) (offers : Offered) (t : ℕ) → HasTimes setup core →
    HasTimes setup (turned core offers t)
turned-times setup core offers t has = moved setup core (turned core offers t)
    (subst (λ m. m ≤ 2 ^ 40) (sym (ap (λ c. c.moment) (turned-is core offers t))) has.moment)
    (ap (λ c. c.tasks) (turned-is core offers t)) (ap (λ c. c.clock) (turned-is core offers t)) has

pub millisecond-times : (setup : Setup) (core : Core) → core.moment + 1 ≤ 2 ^ 40 → HasTimes setup core →
    HasTimes setup (millisecond core)
millisecond-times setup core near has =
    millisecond-keeps AnyPriority (IsGood setup) IsActive (HasTimes setup) (times_closed setup) core
    (moved setup core _ near refl refl has)

pub arrived-times : (setup : Setup) (core : Core) (come : Entry) → HasTimes setup core → IsFitting setup come →
    HasTimes setup (arrived core come)
arrived-times setup core come has fits =
    arrived-keeps AnyPriority (IsGood setup) IsActive (HasTimes setup) (times_closed setup) (times_free setup) core come
    (λ time same. record {
      moment = has.moment;
      lawful = record { plans = has.lawful.plans; clock = clock_fits setup come fits time same };
      rows = has.rows;
    }) has
