-- No series that begins up to moment 2^42 has a last moment behind 2^64 - 1, in any core of a run.
use Rattle.std.proofs.Common.{◌≡◌, ℕ, zero, suc, ◌+◌, ◌-◌, ◌^◌, ◌%◌, ◌≤◌, List, [], ◌∷◌, Option, Some, None, IfSome}
use Rattle.std.proofs.Common.{map, slice_set, sym, ap, subst, arith}
use Rattle.std.specs.List.{AllByRecursion}
use Rattle.std.proofs.lemmas.Nat.{mod_below}
use Rattle.pearl_rules.specs.declared.action.Action.{Action}
use Rattle.pearl_rules.specs.declared.action.Action.TheVariants as action
use Rattle.pearl_rules.specs.declared.action.Start.{Start}
use Rattle.pearl_rules.specs.declared.action.Start.TheVariants as start
use Rattle.pearl_rules.specs.declared.action.Repeat.{Repeat}
use Rattle.pearl_rules.specs.declared.action.Repeat.TheVariants.{Once}
use Rattle.pearl_rules.specs.declared.row.Activation.{Activation}
use Rattle.pearl_rules.specs.declared.row.End.{End}
use Rattle.pearl_rules.specs.declared.row.End.TheVariants as end
use Rattle.pearl_rules.specs.declared.row.Kept.TheVariants as kept
use Rattle.pearl_rules.specs.declared.row.Mode.TheVariants.{Dormant}
use Rattle.pearl_rules.specs.declared.row.Plan.{Plan}
use Rattle.pearl_rules.specs.declared.row.TaskRow.{TaskRow}
use Rattle.pearl_rules.specs.declared.setup.Setup.{Setup}
use Rattle.pearl_rules.specs.declared.setup.TaskEntry.{TaskEntry}
use Rattle.pearl_rules.specs.Core.{Core, row_of, first_row, opening}
use Rattle.pearl_rules.specs.Plans.{day, time_at, end_of, no_end, last_moment, begun, first_moment, planned}
use Rattle.pearl_rules.specs.Pick.{turned}
use Rattle.pearl_rules.specs.Slots.{IsEnd}
use Rattle.pearl_rules.proofs.Offered.{AnyPriority, any_kept, each_at, turned-is, Starts, Closed, ClosedAtEnds, IsFree}
use Rattle.pearl_rules.proofs.Offered.{Brings, millisecond-kept, arrived-kept, effect-free}
use Rattle.pearl_saved_laws.proofs.Sound.{Keeps}

-- a lawful end of a series is not behind the last number of 64 bits
ends_soon : (core : Core) (first : ℕ) (how : End) → IsEnd how → first ≤ 2 ^ 42 → last_moment core first how ≤ no_end
ends_soon core first end.Never is near = omega arith
ends_soon core first (end.Until time) is near =
    let below = mod_below (time + (day - time_at core first)) day (omega arith) in
    let most : first + (time + (day - time_at core first)) % day ≤ 2 ^ 42 + 86400000 = omega (arith, below, near) in
    omega (arith, most)
ends_soon core first (end.During time) is near = omega (arith, is, near)

-- where a plan's end is lawful, a series of it that begins near ends there
abbrev pub EndsThere : Plan → Type 0
EndsThere plan = IsEnd plan.end → IfSome plan.series (λ series. series.first ≤ 2 ^ 42 → series.last ≤ no_end)

abbrev pub RowEndsThere : TaskRow → Type 0
RowEndsThere row = IfSome row.continuation EndsThere × IfSome row.activation (λ activation. EndsThere activation.plan)

abbrev pub AllEndThere : Core → Type 0
AllEndThere core = AllByRecursion RowEndsThere core.tasks

begun_ends : (core : Core) (plan : Plan) → EndsThere (begun core plan)
begun_ends core plan is near = ends_soon core (core.moment + plan.after) plan.end is near

planned_ends : (core : Core) (when : Start) (how : Repeat) → EndsThere (planned core when how)
planned_ends core start.Free how is = λ near. ends_soon core (first_moment core start.Free) (end_of how) is near
planned_ends core (start.At time) how is =
    λ near. ends_soon core (first_moment core (start.At time)) (end_of how) is near
planned_ends core (start.After time) how is =
    λ near. ends_soon core (first_moment core (start.After time)) (end_of how) is near
planned_ends core (start.When device) how is = tt
planned_ends core (start.WhenAfter device time) how is = tt

-- ---- rows

all_set : {X : Type 0} (P : X → Type 0) (xs : List X) → AllByRecursion P xs → (i : ℕ) (x : X) → P x →
    AllByRecursion P (slice_set xs i x)
all_set P [] all i x holds = tt
all_set P (first ∷ xs) all zero x holds = (holds, all.1)
all_set P (first ∷ xs) all (suc i) x holds = (all.0, all_set P xs all.1 i x holds)

row_at : (core : Core) (t : ℕ) (row : TaskRow) → row_of core t ≡ Some row → AllEndThere core → RowEndsThere row
row_at core t row at has = each_at RowEndsThere core.tasks has t row at

starts_so : (plan : Option Activation) → IfSome plan (λ activation. EndsThere activation.plan) →
    IfSome plan (Starts AnyPriority EndsThere)
starts_so None is = tt
starts_so (Some plan) is = (tt, is)

closed : Closed AnyPriority EndsThere AllEndThere
closed = record {
  told = λ core e has. has;
  stands = λ core t row mode held at stays keeps has.
      all_set RowEndsThere core.tasks has t (record row { mode = mode; kept = held }) (row_at core t row at has);
  goes_on = λ core t row plan at lawful has.
      all_set RowEndsThere core.tasks has t (record row { continuation = plan }) (lawful, (row_at core t row at has).1);
  starts = λ core t row plan at lawful has.
      all_set RowEndsThere core.tasks has t (record row { activation = Some plan })
      ((row_at core t row at has).0, lawful.1);
  going = λ core t row at has. (row_at core t row at has).0;
  starting = λ core t row at has. starts_so row.activation (row_at core t row at has).1;
  keeping = λ core t row at has. any_kept row.kept;
  begins = λ core plan lawful. begun_ends core plan;
}

at_ends : ClosedAtEnds AllEndThere
at_ends = record {
  ends = λ core t row at has.
      all_set RowEndsThere core.tasks has t (record row { mode = Dormant; kept = kept.Nothing; continuation = None })
      (tt, (row_at core t row at has).1);
  prevents = λ core t row at has.
      all_set RowEndsThere core.tasks has t
      (record row { kept = kept.Nothing; continuation = None; activation = None }) (tt, tt);
}

moved : (core other : Core) → other.tasks ≡ core.tasks → AllEndThere core → AllEndThere other
moved core other tasks has = subst (AllByRecursion RowEndsThere) (sym tasks) has

free : IsFree AllEndThere
free core other only has = moved core other only.tasks has

brings : (core : Core) (asked : Action) → Brings AnyPriority EndsThere core asked
brings core (action.Activate t when how priority) = (λ row at. tt, λ now. planned_ends now when how)
brings core (action.Continue t when) = λ now. planned_ends now when Once
brings core (action.Resume when) = λ now. planned_ends now when Once
brings core other = tt

pub ends_kept : (setup : Setup) → Keeps setup AllEndThere
ends_kept setup = record {
  acts = λ core own asked there active fits has.
      effect-free AnyPriority EndsThere AllEndThere closed free at_ends core own asked (brings core asked) has;
  turns = λ core offers t has. moved core (turned core offers t)
      (ap (λ (c : Core). c.tasks) (turned-is core offers t)) has;
  tells = λ core told has. has;
  passes = λ core has. millisecond-kept AnyPriority EndsThere AllEndThere closed core has;
  arrives = λ core come fits has.
      arrived-kept AnyPriority EndsThere AllEndThere closed free core come (λ time same. has) has;
}

-- at the start there are no plans
no_plans : (tasks : List TaskEntry) → AllByRecursion RowEndsThere (map first_row tasks)
no_plans [] = tt
no_plans (task ∷ tasks) = ((tt, tt), no_plans tasks)

pub opening_ends : (setup : Setup) → AllEndThere (opening setup)
opening_ends setup = no_plans setup.tasks
