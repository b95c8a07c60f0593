-- Tasks: what is recorded of a row makes the same row again, and the other way round.
use Rattle.std.proofs.Common.{◌≡◌, ℕ, ◌≤◌, ◌<◌, ◌^◌, Bool, true, false, List, [], ◌∷◌, Option, Some, None, IfSome, length, map, nat_eq, refl, sym, ap, ◌∙◌, arith, eqb-true}
use Rattle.std.specs.Prelude.{IsSome, option_map, if◌then◌else◌}
use Rattle.std.specs.List.{AllByRecursion}
use Rattle.pearl_rules.specs.declared.row.Mode.{Mode}
use Rattle.pearl_rules.specs.declared.row.Mode.TheVariants as mode
use Rattle.pearl_rules.specs.declared.row.Kept.{Kept}
use Rattle.pearl_rules.specs.declared.row.Kept.TheVariants.{Nothing, One, Two, Three}
use Rattle.pearl_rules.specs.declared.row.End.{End}
use Rattle.pearl_rules.specs.declared.row.End.TheVariants as end
use Rattle.pearl_rules.specs.declared.row.Plan.{Plan}
use Rattle.pearl_rules.specs.declared.row.Activation.{Activation}
use Rattle.pearl_rules.specs.declared.row.TaskRow.{TaskRow}
use Rattle.pearl_rules.specs.declared.series.Series.{Series}
use Rattle.pearl_rules.specs.declared.setup.Setup.{Setup}
use Rattle.pearl_rules.specs.Core.{declared_of}
use Rattle.pearl_rules.specs.Plans.{no_end, priorities}
use Rattle.pearl_rules.specs.Slots as slots
use Rattle.pearl_rules.specs.Slots.{IsUrgency, IsUrgentMode, IsUrgentRow, IsPlannedRow, IsTimed, IsTimedRow}
use Rattle.pearl_records.specs.declared.record.EndRecord.{EndRecord}
use Rattle.pearl_records.specs.declared.record.EndRecord.TheVariants.{Never, Until, During}
use Rattle.pearl_records.specs.declared.record.SeriesRecord.{SeriesRecord}
use Rattle.pearl_records.specs.declared.record.PlanRecord.{PlanRecord}
use Rattle.pearl_records.specs.declared.record.ActivationRecord.{ActivationRecord}
use Rattle.pearl_records.specs.declared.record.Standing.{Standing}
use Rattle.pearl_records.specs.declared.record.Standing.TheVariants.{Dormant, Active}
use Rattle.pearl_records.specs.declared.record.TaskRecord.{TaskRecord}
use Rattle.pearl_records.specs.States.{IsUrgent, HasUrgencies, IsEnd, IsSeries, IsPlan, IsPlanned, EndsSooner, EndSooner}
use Rattle.pearl_records.specs.Records.{recorded_last, made_last, series_record, made_series, end_record, made_end, plan_record, made_plan, activation_record, made_activation, standing_record, mode_in, starts_with, kept_in, row_record, made_row, rows_made}

-- ---- plans

last_by : (last : ℕ) (b : Bool) → nat_eq last no_end ≡ b → made_last (if b then None else Some last) ≡ last
last_by last true e = sym (eqb-true last no_end e)
last_by last false e = refl

last_again : (last : ℕ) → made_last (recorded_last last) ≡ last
last_again last = last_by last (nat_eq last no_end) refl

series_again : (series : Option Series) → option_map made_series (option_map series_record series) ≡ series
series_again None = refl
series_again (Some s) = ap (λ last. Some (record { first = s.first; period = s.period; last = last })) (last_again s.last)

end_again : (end : End) → made_end (end_record end) ≡ end
end_again end.Never = refl
end_again (end.Until time) = refl
end_again (end.During time) = refl

plan_again : (plan : Plan) → made_plan (plan_record plan) ≡ plan
plan_again plan =
    ap (λ e. record { when = plan.when; after = plan.after; period = plan.period; end = e; series = option_map made_series (option_map series_record plan.series) }) (end_again plan.end)
    ∙ ap (λ s. record plan { series = s }) (series_again plan.series)

maybe_plan_again : (plan : Option Plan) → option_map made_plan (option_map plan_record plan) ≡ plan
maybe_plan_again None = refl
maybe_plan_again (Some plan) = ap Some (plan_again plan)

activation_again : (activation : Option Activation) → option_map made_activation (option_map activation_record activation) ≡ activation
activation_again None = refl
activation_again (Some a) = ap (λ plan. Some (record { plan = plan; priority = a.priority })) (plan_again a.plan)

-- ---- rows

starts_again : (kept : Kept) → starts_with (priorities kept) ≡ kept
starts_again Nothing = refl
starts_again (One a) = refl
starts_again (Two a b) = refl
starts_again (Three a b c) = refl

mode_again : (m : Mode) (kept : Kept) → mode_in (standing_record m kept) ≡ m
mode_again mode.Dormant kept = refl
mode_again (mode.Active priority suspended) kept = refl

kept_again : (m : Mode) (kept : Kept) → (m ≡ mode.Dormant → kept ≡ Nothing) → kept_in (standing_record m kept) ≡ kept
kept_again mode.Dormant kept none = sym (none refl)
kept_again (mode.Active priority suspended) kept none = starts_again kept

row_again : (row : TaskRow) → (row.mode ≡ mode.Dormant → row.kept ≡ Nothing) → made_row row.declared (row_record row) ≡ row
row_again row none =
    ap (λ m. record {
      mode = m;
      declared = row.declared;
      kept = kept_in (standing_record row.mode row.kept);
      continuation = option_map made_plan (option_map plan_record row.continuation);
      activation = option_map made_activation (option_map activation_record row.activation);
    }) (mode_again row.mode row.kept)
    ∙ ap (λ k. record {
      mode = row.mode;
      declared = row.declared;
      kept = k;
      continuation = option_map made_plan (option_map plan_record row.continuation);
      activation = option_map made_activation (option_map activation_record row.activation);
    }) (kept_again row.mode row.kept none)
    ∙ ap (λ c. record {
      mode = row.mode;
      declared = row.declared;
      kept = row.kept;
      continuation = c;
      activation = option_map made_activation (option_map activation_record row.activation);
    }) (maybe_plan_again row.continuation)
    ∙ ap (λ a. record row { activation = a }) (activation_again row.activation)

pub rows_again : (rows : List TaskRow) → AllByRecursion IsTimedRow rows → rows_made (map declared_of rows) (map row_record rows) ≡ rows
rows_again [] h = refl
rows_again (row ∷ rows) h =
    ap (λ r. r ∷ rows_made (map declared_of rows) (map row_record rows)) (row_again row h.0.keeps_none)
    ∙ ap (λ more. row ∷ more) (rows_again rows h.1)

-- ---- what is recorded is lawful

few_kept : (kept : Kept) → length (priorities kept) ≤ 3
few_kept Nothing = omega arith
few_kept (One a) = omega arith
few_kept (Two a b) = omega arith
few_kept (Three a b c) = omega arith

urgent_standing : (m : Mode) (kept : Kept) → IsUrgentMode m → AllByRecursion IsUrgency (priorities kept) → IsUrgent (standing_record m kept)
urgent_standing mode.Dormant kept is all = tt
urgent_standing (mode.Active priority suspended) kept is all = (is, all, few_kept kept)

urgent_activation : (activation : Option Activation) → IfSome activation (λ start. IsUrgency start.priority) →
    IfSome (option_map activation_record activation) (λ start. IsUrgency start.priority)
urgent_activation None is = tt
urgent_activation (Some activation) is = is

pub rows_urgent : (rows : List TaskRow) → AllByRecursion IsUrgentRow rows → AllByRecursion HasUrgencies (map row_record rows)
rows_urgent [] h = tt
rows_urgent (row ∷ rows) h =
    ((urgent_standing row.mode row.kept h.0.1 h.0.2, urgent_activation row.activation h.0.3), rows_urgent rows h.1)

end_recorded : (end : End) → slots.IsEnd end → IsEnd (end_record end)
end_recorded end.Never is = tt
end_recorded (end.Until time) is = is
end_recorded (end.During time) is = is

series_recorded : (series : Option Series) → IfSome series (λ s. (s.first ≤ 2 ^ 42) × (s.period ≤ 2 ^ 40)) →
    IfSome (option_map series_record series) IsSeries
series_recorded None is = tt
series_recorded (Some series) is = is

begun_recorded : (series : Option Series) → IsSome series → IsSome (option_map series_record series)
begun_recorded None is = let no : ⊥ = cc in absurd no
begun_recorded (Some series) is = refl

module _ (setup : Setup) where
  plan_recorded : (plan : Plan) → slots.IsPlan setup plan → IsTimed plan → IsPlan setup (plan_record plan)
  plan_recorded plan is timed = record {
    when = is.when;
    after = is.after;
    period = is.period;
    end = end_recorded plan.end is.end;
    series = series_recorded plan.series timed.near;
    begun = λ none. begun_recorded plan.series (timed.has none);
  }

  continuation_recorded : (plan : Option Plan) → IfSome plan (slots.IsPlan setup) → IfSome plan IsTimed →
      IfSome (option_map plan_record plan) (IsPlan setup)
  continuation_recorded None is timed = tt
  continuation_recorded (Some plan) is timed = plan_recorded plan is timed

  activation_recorded : (activation : Option Activation) → IfSome activation (λ a. slots.IsPlan setup a.plan) →
      IfSome activation (λ a. IsTimed a.plan) → IfSome (option_map activation_record activation) (λ a. IsPlan setup a.plan)
  activation_recorded None is timed = tt
  activation_recorded (Some activation) is timed = plan_recorded activation.plan is timed

  dormant_recorded : (m : Mode) (kept : Kept) (plan : Option Plan) → (m ≡ mode.Dormant → plan ≡ None) →
      standing_record m kept ≡ Dormant → option_map plan_record plan ≡ None
  dormant_recorded mode.Dormant kept plan none e = ap (option_map plan_record) (none refl)
  dormant_recorded (mode.Active priority suspended) kept plan none e = absurd cc

  pub rows_planned : (rows : List TaskRow) → AllByRecursion (IsPlannedRow setup) rows → AllByRecursion IsTimedRow rows →
      AllByRecursion (IsPlanned setup) (map row_record rows)
  rows_planned [] is timed = tt
  rows_planned (row ∷ rows) is timed = (
    record {
      dormant = dormant_recorded row.mode row.kept row.continuation timed.0.dormant;
      goes_on = continuation_recorded row.continuation is.0.0 timed.0.goes_on;
      starts = activation_recorded row.activation is.0.1 timed.0.starts;
    },
    rows_planned rows is.1 timed.1,
  )

-- ---- the other way: records that are made and recorded

read_by : (last : ℕ) (b : Bool) → nat_eq last no_end ≡ b → last < no_end → (if b then None else Some last) ≡ Some last
read_by last true e less = let same = eqb-true last no_end e in absurd (omega (arith, same, less))
read_by last false e less = refl

last_read : (last : Option ℕ) → IfSome last (λ l. l < no_end) → recorded_last (made_last last) ≡ last
last_read None less = refl
last_read (Some last) less = read_by last (nat_eq last no_end) refl less

series_read : (series : Option SeriesRecord) → IfSome series (λ s. IfSome s.last (λ l. l < no_end)) →
    option_map series_record (option_map made_series series) ≡ series
series_read None less = refl
series_read (Some s) less = ap (λ last. Some (record { first = s.first; period = s.period; last = last })) (last_read s.last less)

end_read : (end : EndRecord) → end_record (made_end end) ≡ end
end_read Never = refl
end_read (Until time) = refl
end_read (During time) = refl

plan_read : (plan : PlanRecord) → EndsSooner plan → plan_record (made_plan plan) ≡ plan
plan_read plan less =
    ap (λ e. record { when = plan.when; after = plan.after; period = plan.period; end = e; series = option_map series_record (option_map made_series plan.series) }) (end_read plan.end)
    ∙ ap (λ s. record plan { series = s }) (series_read plan.series less)

maybe_plan_read : (plan : Option PlanRecord) → IfSome plan EndsSooner → option_map plan_record (option_map made_plan plan) ≡ plan
maybe_plan_read None less = refl
maybe_plan_read (Some plan) less = ap Some (plan_read plan less)

activation_read : (start : Option ActivationRecord) → IfSome start (λ a. EndsSooner a.plan) →
    option_map activation_record (option_map made_activation start) ≡ start
activation_read None less = refl
activation_read (Some a) less = ap (λ plan. Some (record { plan = plan; priority = a.priority })) (plan_read a.plan less)

starts_read : (kept : List ℕ) → length kept ≤ 3 → priorities (starts_with kept) ≡ kept
starts_read [] few = refl
starts_read (a ∷ []) few = refl
starts_read (a ∷ b ∷ []) few = refl
starts_read (a ∷ b ∷ c ∷ []) few = refl
starts_read (a ∷ b ∷ c ∷ d ∷ more) few = absurd (omega (arith, few))

standing_read : (standing : Standing) → IsUrgent standing → standing_record (mode_in standing) (kept_in standing) ≡ standing
standing_read Dormant is = refl
standing_read (Active priority suspended kept) is = ap (Active priority suspended) (starts_read kept is.2)

row_read : (declared : ℕ) (row : TaskRecord) → HasUrgencies row → EndSooner row → row_record (made_row declared row) ≡ row
row_read declared row is less =
    ap (λ s. record {
      standing = s;
      continuation = option_map plan_record (option_map made_plan row.continuation);
      activation = option_map activation_record (option_map made_activation row.activation);
    }) (standing_read row.standing is.0)
    ∙ ap (λ c. record {
      standing = row.standing;
      continuation = c;
      activation = option_map activation_record (option_map made_activation row.activation);
    }) (maybe_plan_read row.continuation less.0)
    ∙ ap (λ a. record row { activation = a }) (activation_read row.activation less.1)

pub rows_read : (declared : List ℕ) (rows : List TaskRecord) → length rows ≡ length declared → AllByRecursion HasUrgencies rows →
    AllByRecursion EndSooner rows → map row_record (rows_made declared rows) ≡ rows
rows_read [] [] e is less = refl
rows_read [] (row ∷ rows) e is less = absurd (omega (arith, e))
rows_read (d ∷ declared) [] e is less = refl
rows_read (d ∷ declared) (row ∷ rows) e is less =
    let more : length rows ≡ length declared = omega (arith, e) in
    ap (λ r. r ∷ map row_record (rows_made declared rows)) (row_read d row is.0 less.0)
    ∙ ap (λ rest. row ∷ rest) (rows_read declared rows more is.1 less.1)

-- ---- what is made is lawful

pub rows_declared : (declared : List ℕ) (rows : List TaskRecord) → length rows ≡ length declared →
    map declared_of (rows_made declared rows) ≡ declared
rows_declared [] rows e = refl
rows_declared (d ∷ declared) [] e = absurd (omega (arith, e))
rows_declared (d ∷ declared) (row ∷ rows) e =
    let more : length rows ≡ length declared = omega (arith, e) in ap (λ rest. d ∷ rest) (rows_declared declared rows more)

mode_made : (standing : Standing) → IsUrgent standing → IsUrgentMode (mode_in standing)
mode_made Dormant is = tt
mode_made (Active priority suspended kept) is = is.0

starts_made : (kept : List ℕ) → AllByRecursion IsUrgency kept → AllByRecursion IsUrgency (priorities (starts_with kept))
starts_made [] all = tt
starts_made (a ∷ []) all = all
starts_made (a ∷ b ∷ []) all = all
starts_made (a ∷ b ∷ c ∷ more) all = (all.0, (all.1.0, (all.1.1.0, tt)))

kept_made : (standing : Standing) → IsUrgent standing → AllByRecursion IsUrgency (priorities (kept_in standing))
kept_made Dormant is = tt
kept_made (Active priority suspended kept) is = starts_made kept is.1

urgent_made : (start : Option ActivationRecord) → IfSome start (λ a. IsUrgency a.priority) →
    IfSome (option_map made_activation start) (λ a. IsUrgency a.priority)
urgent_made None is = tt
urgent_made (Some start) is = is

pub rows_made-urgent : (declared : List ℕ) (rows : List TaskRecord) → AllByRecursion IsUrgency declared → AllByRecursion HasUrgencies rows →
    AllByRecursion IsUrgentRow (rows_made declared rows)
rows_made-urgent [] rows all is = tt
rows_made-urgent (d ∷ declared) [] all is = tt
rows_made-urgent (d ∷ declared) (row ∷ rows) all is = (
  (all.0, mode_made row.standing is.0.0, kept_made row.standing is.0.0, urgent_made row.activation is.0.1),
  rows_made-urgent declared rows all.1 is.1,
)

end_made : (end : EndRecord) → IsEnd end → slots.IsEnd (made_end end)
end_made Never is = tt
end_made (Until time) is = is
end_made (During time) is = is

series_made : (series : Option SeriesRecord) → IfSome series IsSeries →
    IfSome (option_map made_series series) (λ s. (s.first ≤ 2 ^ 42) × (s.period ≤ 2 ^ 40))
series_made None is = tt
series_made (Some series) is = is

begun_made : (series : Option SeriesRecord) → IsSome series → IsSome (option_map made_series series)
begun_made None is = let no : ⊥ = cc in absurd no
begun_made (Some series) is = refl

dormant_kept : (standing : Standing) → mode_in standing ≡ mode.Dormant → kept_in standing ≡ Nothing
dormant_kept Dormant e = refl
dormant_kept (Active priority suspended kept) e = absurd cc

dormant_goes : (standing : Standing) (plan : Option PlanRecord) → (standing ≡ Dormant → plan ≡ None) → mode_in standing ≡ mode.Dormant →
    option_map made_plan plan ≡ None
dormant_goes Dormant plan none e = ap (option_map made_plan) (none refl)
dormant_goes (Active priority suspended kept) plan none e = absurd cc

module _ (setup : Setup) where
  plan_made : (plan : PlanRecord) → IsPlan setup plan → slots.IsPlan setup (made_plan plan)
  plan_made plan is = record { when = is.when; after = is.after; period = is.period; end = end_made plan.end is.end }

  plan_timed : (plan : PlanRecord) → IsPlan setup plan → IsTimed (made_plan plan)
  plan_timed plan is =
      record { has = λ none. begun_made plan.series (is.begun none); near = series_made plan.series is.series }

  continuation_made : (plan : Option PlanRecord) → IfSome plan (IsPlan setup) → IfSome (option_map made_plan plan) (slots.IsPlan setup)
  continuation_made None is = tt
  continuation_made (Some plan) is = plan_made plan is

  continuation_timed : (plan : Option PlanRecord) → IfSome plan (IsPlan setup) → IfSome (option_map made_plan plan) IsTimed
  continuation_timed None is = tt
  continuation_timed (Some plan) is = plan_timed plan is

  activation_made : (start : Option ActivationRecord) → IfSome start (λ a. IsPlan setup a.plan) →
      IfSome (option_map made_activation start) (λ a. slots.IsPlan setup a.plan)
  activation_made None is = tt
  activation_made (Some start) is = plan_made start.plan is

  activation_timed : (start : Option ActivationRecord) → IfSome start (λ a. IsPlan setup a.plan) →
      IfSome (option_map made_activation start) (λ a. IsTimed a.plan)
  activation_timed None is = tt
  activation_timed (Some start) is = plan_timed start.plan is

  pub rows_made-planned : (declared : List ℕ) (rows : List TaskRecord) → AllByRecursion (IsPlanned setup) rows →
      AllByRecursion (IsPlannedRow setup) (rows_made declared rows)
  rows_made-planned [] rows is = tt
  rows_made-planned (d ∷ declared) [] is = tt
  rows_made-planned (d ∷ declared) (row ∷ rows) is = (
    (continuation_made row.continuation is.0.goes_on, activation_made row.activation is.0.starts),
    rows_made-planned declared rows is.1,
  )

  pub rows_made-timed : (declared : List ℕ) (rows : List TaskRecord) → AllByRecursion (IsPlanned setup) rows →
      AllByRecursion IsTimedRow (rows_made declared rows)
  rows_made-timed [] rows is = tt
  rows_made-timed (d ∷ declared) [] is = tt
  rows_made-timed (d ∷ declared) (row ∷ rows) is = (
    record {
      dormant = dormant_goes row.standing row.continuation is.0.dormant;
      keeps_none = dormant_kept row.standing;
      goes_on = continuation_timed row.continuation is.0.goes_on;
      starts = activation_timed row.activation is.0.starts;
    },
    rows_made-timed declared rows is.1,
  )
