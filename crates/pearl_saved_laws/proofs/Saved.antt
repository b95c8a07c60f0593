-- What is saved of a state of a run is a state from which a run can go on, and no series in it lasts up to 2^64 - 1.
use Rattle.std.proofs.Common.{◌≡◌, ◌⊎◌, inl, inr, ℕ, zero, suc, ◌+◌, ◌^◌, ◌<◌, ◌≤◌, List, [], ◌∷◌, Bool, true, false}
use Rattle.std.proofs.Common.{Option, Some, None, IfSome, length, slice_get, nat_eq, if◌then◌else◌, refl, sym, subst}
use Rattle.std.proofs.Common.{◌∙◌, add-zero, zero-add, arith}
use Rattle.std.specs.Prelude.{is_some, map, option_map}
use Rattle.std.specs.List.{AllByRecursion}
use Rattle.std.proofs.lemmas.Bool.{true≢false, false≢true, cases_lt, eqb-false}
use Rattle.pearl_rules.specs.declared.row.Activation.{Activation}
use Rattle.pearl_rules.specs.declared.row.Kept.{Kept}
use Rattle.pearl_rules.specs.declared.row.Mode.{Mode}
use Rattle.pearl_rules.specs.declared.row.Mode.TheVariants.{Dormant, Active}
use Rattle.pearl_rules.specs.declared.row.Plan.{Plan}
use Rattle.pearl_rules.specs.declared.row.TaskRow.{TaskRow}
use Rattle.pearl_rules.specs.declared.series.Series.{Series}
use Rattle.pearl_rules.specs.declared.setup.Setup.{Setup}
use Rattle.pearl_rules.specs.Core.{Core, is_active_mode, is_active_row}
use Rattle.pearl_rules.specs.Plans.{no_end}
use Rattle.pearl_rules.specs.Runs.{Running, kept_at}
use Rattle.pearl_rules.specs.Slots.{IsPlan, IsPlannedRow, IsTimed, IsTimedRow}
use Rattle.pearl_stack.specs.Frames.{Frame}
use Rattle.pearl_instructions.specs.declared.object.Parts.{Parts as Object}
use Rattle.pearl_instructions.specs.Engines.{engine, machine_run}
use Rattle.pearl_instructions.specs.Setups.{setup_of}
use Rattle.pearl_instructions.specs.Valid.{IsValid}
use Rattle.pearl_instructions_laws.specs.Laws.{TasksHaveStacks}
use Rattle.pearl_records.specs.Records.{series_record, recorded_last, plan_record, activation_record, row_record}
use Rattle.pearl_records.specs.Records.{standing_record, record_of, IsRecordable}
use Rattle.pearl_records.specs.States.{EndsSooner, EndSooner, AllEnd, IsRecord}
use Rattle.pearl_saved.specs.declared.saved.Saved.{Saved}
use Rattle.pearl_saved.specs.Laws.{StacksKeepRules}
use Rattle.pearl_saved.specs.Rules.{HasStack, HasStacks, AllRefer, Rule, IsMachineState}
use Rattle.pearl_machine.specs.Resumed.{frames_in, saved_of}
use Rattle.pearl_saved_laws.specs.Laws.{StatesAreSaved}
use Rattle.pearl_saved_laws.proofs.Again.{filled}
use Rattle.pearl_saved_laws.proofs.Cores.{StayRecordable, TimePasses}
use Rattle.pearl_saved_laws.proofs.LastMoments.{EndsThere, RowEndsThere, AllEndThere, ends_kept, opening_ends}
use Rattle.pearl_saved_laws.proofs.Objects.{Here}
use Rattle.pearl_saved_laws.proofs.Runs.{AreSound, run_good, run_recordable}
use Rattle.pearl_saved_laws.proofs.Sound.{Stands}

-- ---- series

last_sooner : (last : ℕ) → last ≤ no_end → IfSome (recorded_last last) (λ l. l < no_end)
last_sooner last most = by (nat_eq last no_end) refl
  where
    below : (last ≡ no_end → ⊥) → (last < no_end) ⊎ (no_end ≤ last) → last < no_end
    below other (inl less) = less
    below other (inr up) = let same : last ≡ no_end = omega (arith, most, up) in absurd (other same)

    by : (b : Bool) → nat_eq last no_end ≡ b → IfSome (if b then None else Some last) (λ l. l < no_end)
    by true e = tt
    by false e = below (eqb-false last no_end e) (cases_lt last no_end)

series_sooner : (series : Option Series) → IfSome series (λ s. (s.first ≤ 2 ^ 42) × (s.period ≤ 2 ^ 40)) →
    IfSome series (λ s. s.first ≤ 2 ^ 42 → s.last ≤ no_end) →
    IfSome (option_map series_record series) (λ s. IfSome s.last (λ l. l < no_end))
series_sooner None near there = tt
series_sooner (Some series) near there = last_sooner series.last (there near.0)

plan_sooner : (setup : Setup) (plan : Plan) → IsPlan setup plan → IsTimed plan → EndsThere plan →
    EndsSooner (plan_record plan)
plan_sooner setup plan is timed there = series_sooner plan.series timed.near (there is.end)

continuation_sooner : (setup : Setup) (plan : Option Plan) → IfSome plan (IsPlan setup) → IfSome plan IsTimed →
    IfSome plan EndsThere → IfSome (option_map plan_record plan) EndsSooner
continuation_sooner setup None is timed there = tt
continuation_sooner setup (Some plan) is timed there = plan_sooner setup plan is timed there

activation_sooner : (setup : Setup) (start : Option Activation) → IfSome start (λ a. IsPlan setup a.plan) →
    IfSome start (λ a. IsTimed a.plan) →
    IfSome start (λ a. EndsThere a.plan) → IfSome (option_map activation_record start) (λ s. EndsSooner s.plan)
activation_sooner setup None is timed there = tt
activation_sooner setup (Some start) is timed there = plan_sooner setup start.plan is timed there

rows_sooner : (setup : Setup) (rows : List TaskRow) → AllByRecursion (IsPlannedRow setup) rows →
    AllByRecursion IsTimedRow rows → AllByRecursion RowEndsThere rows → AllByRecursion EndSooner (map row_record rows)
rows_sooner setup [] is timed there = tt
rows_sooner setup (row ∷ rows) is timed there = (
  (
    continuation_sooner setup row.continuation is.0.0 timed.0.goes_on there.0.0,
    activation_sooner setup row.activation is.0.1 timed.0.starts there.0.1,
  ),
  rows_sooner setup rows is.1 timed.1 there.1,
)

all_end : (setup : Setup) (core : Core) → IsRecordable setup core → AllEndThere core → AllEnd (record_of core)
all_end setup core is there = rows_sooner setup core.tasks is.times.lawful.plans is.times.rows there

-- ---- stacks

module _ (law : StacksKeepRules) (o : Object) where
  one_saved : (t : ℕ) (mode : Mode) (kept : Kept) (x : Option (Running (List Frame))) →
      is_some x ≡ is_active_mode mode →
      ((running : Running (List Frame)) → x ≡ Some running → Stands (engine o) (Here o) t running) →
      HasStack o t (standing_record mode kept) (frames_in x) × AllRefer o [] (frames_in x)
  one_saved t Dormant kept None e stand = (refl, tt)
  one_saved t Dormant kept (Some running) e stand = absurd (true≢false e)
  one_saved t (Active priority suspended) kept None e stand = absurd (false≢true e)
  one_saved t (Active priority suspended) kept (Some running) e stand = law o t running.stack
      (stand running refl).here.own

  all_saved : (n : ℕ) (rows : List TaskRow) (xs : List (Option (Running (List Frame)))) → length xs ≡ length rows →
      ((t : ℕ) → is_some (kept_at xs t) ≡ is_active_row (slice_get rows t)) →
      ((t : ℕ) (running : Running (List Frame)) → kept_at xs t ≡ Some running →
      Stands (engine o) (Here o) (n + t) running) →
      HasStacks o n (map row_record rows) (map frames_in xs) × AllByRecursion (AllRefer o []) (map frames_in xs)
  all_saved n [] [] same full stand = (tt, tt)
  all_saved n [] (x ∷ xs) same full stand = absurd (omega (arith, same))
  all_saved n (row ∷ rows) [] same full stand = absurd (omega (arith, same))
  all_saved n (row ∷ rows) (x ∷ xs) same full stand =
      let here = one_saved n row.mode row.kept x (full 0)
      (λ running e. subst (λ t. Stands (engine o) (Here o) t running) (add-zero n) (stand 0 running e)) in
      let rest = all_saved (n + 1) rows xs (omega (arith, same)) (λ t. full (suc t)) (λ t running e.
      let number : n + suc t ≡ (n + 1) + t = omega arith in
      subst (λ u. Stands (engine o) (Here o) u running) number (stand (suc t) running e)) in
      ((here.0, rest.0), (here.1, rest.1))

-- ---- all rules

abbrev pub RecordsAreLawful : Type 0
RecordsAreLawful = (setup : Setup) (core : Core) → IsRecordable setup core → AllEnd (record_of core) →
    IsRecord setup (record_of core)

is_state : (o : Object) (s : Saved) → IsValid o → IsRecord (setup_of o) s.core → HasStacks o 0 s.core.tasks s.stacks →
    AllByRecursion (AllRefer o []) s.stacks → IsMachineState o s
is_state o s valid holds stacks refer = rules
  where
    rules : (n : ℕ) → Rule o s n
    rules zero = tt
    rules (suc zero) = valid
    rules (suc (suc zero)) = holds.parts
    rules (suc (suc (suc zero))) = holds.numbers
    rules (suc (suc (suc (suc zero)))) = holds.spans
    rules (suc (suc (suc (suc (suc zero))))) = stacks
    rules (suc (suc (suc (suc (suc (suc zero)))))) = refer
    rules (suc (suc (suc (suc (suc (suc (suc n))))))) = tt

pub states_are_saved : TasksHaveStacks → StacksKeepRules → RecordsAreLawful → StayRecordable → TimePasses →
    AreSound → StatesAreSaved
states_are_saved stacks law records stay time sound o valid lawful es fits n near =
    let m = machine_run o es n in
    let good = run_recordable sound stay time o valid lawful es fits n in
    let there = (run_good sound o valid lawful AllEndThere (ends_kept (setup_of o))
    (opening_ends (setup_of o)) es fits n).core in
    let is = good.core near in
    let ends = all_end (setup_of o) m.core is there in
    let saved = all_saved law o 0 m.core.tasks m.running (good.places ∙ sym good.tasks) (filled m (stacks o es n))
    (λ t running e.
    subst (λ u. Stands (engine o) (Here o) u running) (sym (zero-add t)) (good.stand t running e)) in
    (is_state o (saved_of m) valid (records (setup_of o) m.core is ends) saved.0 saved.1, ends)
