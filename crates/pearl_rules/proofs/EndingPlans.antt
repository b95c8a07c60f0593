-- A plan without a period has no end.
use Rattle.std.proofs.Common.{◌≡◌, ℕ, ◌<◌, ℤ, pos, negsuc, List, [], ◌∷◌, Option, Some, None, IfSome, map, refl, sym, ap, subst, arith}
use Rattle.std.proofs.lemmas.Int.{ints}
use Rattle.std.specs.List.{AllByRecursion}
use Rattle.pearl_rules.specs.declared.action.Action.{Action}
use Rattle.pearl_rules.specs.declared.action.Action.TheVariants as action
use Rattle.pearl_rules.specs.declared.action.Repeat.{Repeat}
use Rattle.pearl_rules.specs.declared.action.Repeat.TheVariants as repeat
use Rattle.pearl_rules.specs.declared.entry.Entry.{Entry}
use Rattle.pearl_rules.specs.declared.row.End.TheVariants as end
use Rattle.pearl_rules.specs.declared.row.Mode.TheVariants.{Dormant}
use Rattle.pearl_rules.specs.declared.row.Kept.TheVariants as kept
use Rattle.pearl_rules.specs.declared.row.Activation.{Activation}
use Rattle.pearl_rules.specs.declared.row.TaskRow.{TaskRow}
use Rattle.pearl_rules.specs.declared.setup.Setup.{Setup}
use Rattle.pearl_rules.specs.declared.setup.TaskEntry.{TaskEntry}
use Rattle.pearl_rules.specs.Core.{Core, row_of, first_row, opening}
use Rattle.pearl_rules.specs.Plans.{milliseconds, period_of, end_of, millisecond}
use Rattle.pearl_rules.specs.Devices.{arrived}
use Rattle.pearl_rules.specs.Effect.{effect}
use Rattle.pearl_rules.specs.Pick.{Offered, turned}
use Rattle.pearl_rules.specs.Slots.{Lasts, Fits, IsRepeat, EndsPeriods, EndsPeriodsOf, HasEnds}
use Rattle.pearl_rules.proofs.Places.{each_at, all_set}
use Rattle.pearl_rules.proofs.Serving.{Starts, Closed, ClosedAtEnds, OnlyValues, Brings, millisecond-kept, arrived-kept, effect-free}
use Rattle.pearl_rules.proofs.EffectLaws.{AnyPriority, any_kept}
use Rattle.pearl_rules.proofs.PickLaws.{turned-is}

-- a period is at least one
period_some : (time : ℤ) → Lasts (pos 1) time → 0 < milliseconds time
period_some (pos n) is = let low = is.0 in omega (arith, ints, low)
period_some (negsuc n) is = let low = is.0 in absurd (omega (arith, ints, low))

-- without a period no end is written
ends_written : (how : Repeat) → IsRepeat how → period_of how ≡ 0 → end_of how ≡ end.Never
ends_written repeat.Once is none = refl
ends_written (repeat.All time) is none = refl
ends_written (repeat.Until time until) is none = let some = period_some time is.0 in absurd (omega (arith, some, none))
ends_written (repeat.During time during) is none = let some = period_some time is.0 in absurd (omega (arith, some, none))

row_at : (core : Core) (t : ℕ) (row : TaskRow) → row_of core t ≡ Some row → HasEnds core → EndsPeriodsOf row
row_at core t row at has = each_at EndsPeriodsOf core.tasks has t row at

ends_starts : (plan : Option Activation) → IfSome plan (λ activation. EndsPeriods activation.plan) →
    IfSome plan (Starts AnyPriority EndsPeriods)
ends_starts None is = tt
ends_starts (Some plan) is = (tt, is)

ends_closed : Closed AnyPriority EndsPeriods HasEnds
ends_closed = record {
  told = λ core e has. has;
  stands = λ core t row mode kept at stays keeps has.
      all_set EndsPeriodsOf core.tasks has t (record row { mode = mode; kept = kept }) (row_at core t row at has);
  goes_on = λ core t row plan at lawful has.
      all_set EndsPeriodsOf core.tasks has t (record row { continuation = plan }) (lawful, (row_at core t row at has).1);
  starts = λ core t row plan at lawful has.
      all_set EndsPeriodsOf core.tasks has t (record row { activation = Some plan }) ((row_at core t row at has).0, lawful.1);
  going = λ core t row at has. (row_at core t row at has).0;
  starting = λ core t row at has. ends_starts row.activation (row_at core t row at has).1;
  keeping = λ core t row at has. any_kept row.kept;
  begins = λ core plan lawful. lawful;
}

ends_at_ends : ClosedAtEnds HasEnds
ends_at_ends = record {
  ends = λ core t row at has.
      all_set EndsPeriodsOf core.tasks has t (record row { mode = Dormant; kept = kept.Nothing; continuation = None })
      (tt, (row_at core t row at has).1);
  prevents = λ core t row at has.
      all_set EndsPeriodsOf core.tasks has t (record row { kept = kept.Nothing; continuation = None; activation = None }) (tt, tt);
}

ends_moved : (core other : Core) → other.tasks ≡ core.tasks → HasEnds core → HasEnds other
ends_moved core other tasks has = subst (λ rows. AllByRecursion EndsPeriodsOf rows) (sym tasks) has

ends_free : (core other : Core) → OnlyValues core other → HasEnds core → HasEnds other
ends_free core other only has = ends_moved core other only.tasks has

ends_brings : (setup : Setup) (core : Core) (asked : Action) → Fits setup asked → Brings AnyPriority EndsPeriods core asked
ends_brings setup core (action.Activate t start how priority) fits = (λ row at. tt, λ now. ends_written how fits.2)
ends_brings setup core (action.Continue t start) fits = λ now. ends_written repeat.Once tt
ends_brings setup core (action.Resume start) fits = λ now. ends_written repeat.Once tt
ends_brings setup core other fits = tt

-- at the start there are no plans
no_plans : (tasks : List TaskEntry) → AllByRecursion EndsPeriodsOf (map first_row tasks)
no_plans [] = tt
no_plans (task ∷ tasks) = ((tt, tt), no_plans tasks)

pub opening-ends : (setup : Setup) → HasEnds (opening setup)
opening-ends setup = no_plans setup.tasks

-- every action, every turn, every millisecond and whatever comes in
pub effect-plan_ends : (setup : Setup) (core : Core) (own : ℕ) (action : Action) → HasEnds core → Fits setup action →
    HasEnds (effect core own action).core
effect-plan_ends setup core own asked has fits =
    effect-free AnyPriority EndsPeriods HasEnds ends_closed ends_free ends_at_ends core own asked
    (ends_brings setup core asked fits) has

pub turned-plan_ends : (core : Core) (offers : Offered) (t : ℕ) → HasEnds core → HasEnds (turned core offers t)
turned-plan_ends core offers t has =
    ends_moved core (turned core offers t) (ap (λ c. c.tasks) (turned-is core offers t)) has

pub millisecond-plan_ends : (core : Core) → HasEnds core → HasEnds (millisecond core)
millisecond-plan_ends core has = millisecond-kept AnyPriority EndsPeriods HasEnds ends_closed core has

pub arrived-plan_ends : (core : Core) (come : Entry) → HasEnds core → HasEnds (arrived core come)
arrived-plan_ends core come has =
    arrived-kept AnyPriority EndsPeriods HasEnds ends_closed ends_free core come (λ time same. has) has
