-- A kernel at the start of a run, and one that is made of a record.
use Rattle.std.proofs.Common.{◌≡◌, ℕ, zero, suc, ◌+◌, ◌<◌, ◌≤◌, List, [], ◌∷◌, Bool, true, false, Option, Some, None, Result, Ok, Err, IfOk}
use Rattle.std.proofs.Common.{length, map, replicate, slice_get, refl, sym, ap, subst, ◌∙◌, arith}
use Rattle.std.specs.List.{AllByRecursion}
use Rattle.std.proofs.lemmas.List.{length-map, length-replicate}
use Rattle.std.proofs.lemmas.Option.{none-some}
use Rattle.pearl_rules.specs.declared.action.Action.{Action}
use Rattle.pearl_rules.specs.declared.row.Mode.{Mode}
use Rattle.pearl_rules.specs.declared.row.Mode.TheVariants.{Dormant, Active}
use Rattle.pearl_rules.specs.declared.row.TaskRow.{TaskRow}
use Rattle.pearl_rules.specs.declared.setup.TaskEntry.{TaskEntry}
use Rattle.pearl_rules.specs.declared.setup.Setup.{Setup}
use Rattle.pearl_rules.specs.Core.{Core, opening, row_of, declared_of, first_row, first_events, first_events_if}
use Rattle.pearl_rules.specs.Pick.{is_ready, is_ready_row, is_possible, priority_of}
use Rattle.pearl_rules.specs.Runs.{kept_at}
use Rattle.pearl_rules.specs.Slots.{IsPlannedRow, IsTimedRow}
use Rattle.pearl_rules.specs.Tables.{IsSetup}
use Rattle.pearl_rules.proofs.Offered.{opening-kinds, opening-urgencies}
use Rattle.pearl_records.specs.declared.record.CoreRecord.{CoreRecord}
use Rattle.pearl_records.specs.States.{AllEnd, IsRecord}
use Rattle.pearl_records.specs.Records.{record_of, core_made, untold, IsRecordable}
use Rattle.pearl_kernel.specs.Kept.{Kept, at_start, from_record, IsReportOf, IsLawful}
use Rattle.pearl_kernel.specs.Whole.{IsWhole}
use Rattle.pearl_kernel.specs.Eligible.{entry, number_if, Stand}
use Rattle.pearl_kernel.proofs.Lawful.{recordable}

-- nothing was offered
none-offered : (n t : ℕ) → kept_at (replicate {A = Option Action} n None) t ≡ None
none-offered zero t = refl
none-offered (suc n) zero = refl
none-offered (suc n) (suc t) = none-offered n t

get-each : {X : Type 0} (x : X) (n t : ℕ) → t < n → slice_get (replicate n x) t ≡ Some x
get-each x zero t within = let no : ⊥ = omega arith in absurd no
get-each x (suc n) zero within = refl
get-each x (suc n) (suc t) within = get-each x n t (omega arith)

-- so nobody can act
cannot-act : (row : Option TaskRow) → is_ready_row row false ≡ false
cannot-act None = refl
cannot-act (Some row) = by_mode row.mode
  where
    by_mode : (mode : Mode) → is_ready mode false ≡ false
    by_mode Dormant = refl
    by_mode (Active priority true) = refl
    by_mode (Active priority false) = refl

-- a kernel of this core and so many tasks, to which nothing was offered
abbrev unoffered : Core → ℕ → Kept
unoffered core n = record { core = core; offers = replicate n None }

no-entry : (core : Core) (n t : ℕ) → entry (unoffered core n) t ≡ None
no-entry core n t =
    ap (λ o. number_if (is_ready_row (row_of core t) (is_possible core o)) (priority_of core t)) (none-offered n t)
    ∙ ap (λ b. number_if b (priority_of core t)) (cannot-act (row_of core t))

no-plans : (setup : Setup) (tasks : List TaskEntry) → AllByRecursion (IsPlannedRow setup) (map first_row tasks)
no-plans setup [] = tt
no-plans setup (task ∷ tasks) = ((tt, tt), no-plans setup tasks)

first-timed : (tasks : List TaskEntry) → AllByRecursion IsTimedRow (map first_row tasks)
first-timed [] = tt
first-timed (task ∷ tasks) =
    (record { dormant = λ e. refl; keeps_none = λ e. refl; goes_on = tt; starts = tt }, first-timed tasks)

first-declared : (tasks : List TaskEntry) → map declared_of (map first_row tasks) ≡ map (λ task. task.priority) tasks
first-declared [] = refl
first-declared (task ∷ tasks) = ap (λ more. task.priority ∷ more) (first-declared tasks)

-- the starts that are told name tasks that are there
first-reports : (setup : Setup) (n : ℕ) (tasks : List TaskEntry) → n + length tasks ≡ length setup.tasks →
    AllByRecursion (IsReportOf setup) (first_events n tasks)
first-reports setup n [] e = tt
first-reports setup n (task ∷ tasks) e = by_main task.main (first-reports setup (n + 1) tasks (omega (arith, e)))
  where
    by_main : (main : Bool) → AllByRecursion (IsReportOf setup) (first_events (n + 1) tasks) →
        AllByRecursion (IsReportOf setup) (first_events_if main n task.priority (first_events (n + 1) tasks))
    by_main true others = (omega (arith, e), others)
    by_main false others = others

pub lawful-opening : (setup : Setup) → IsSetup setup → IsLawful setup (at_start setup)
lawful-opening setup is = record {
  tasks = length-map setup.tasks first_row;
  counts = refl;
  counted = is.semaphores;
  kinds = opening-kinds setup is.slots is.devices;
  urgent = opening-urgencies setup.tasks is.tasks;
  plans = record { plans = no-plans setup setup.tasks; clock = omega arith };
  moment = omega arith;
  timed = first-timed setup.tasks;
  declared = first-declared setup.tasks;
  last = tt;
  same = length-replicate (length setup.tasks) None ∙ sym (length-map setup.tasks first_row);
  quiet = λ t e. none-offered (length setup.tasks) t;
  fits = λ t a e. absurd (none-some a (sym (none-offered (length setup.tasks) t) ∙ e));
  told = first-reports setup 0 setup.tasks (omega arith);
}

-- of no task an offer can be done, and no task can act
abbrev no_stand : ℕ → Stand
no_stand n = record { able = replicate n false; set = replicate n None }

kept-unoffered : (setup : Setup) (core : Core) → length setup.tasks ≤ 200 → length core.tasks ≡ length setup.tasks →
    IsLawful setup (unoffered core (length setup.tasks)) →
    IsWhole (unoffered core (length setup.tasks)) (no_stand (length setup.tasks))
kept-unoffered setup core few size lawful = record {
  few = subst (λ n. n ≤ 200) (sym size) few;
  lawful = (setup, lawful);
  stand = record {
    size = length-replicate (length setup.tasks) false ∙ sym size;
    able = λ t within. get-each false (length setup.tasks) t (subst (λ n. t < n) size within)
        ∙ ap (λ o. Some (is_possible core o)) (sym (none-offered (length setup.tasks) t));
    ready = record {
      size = length-replicate (length setup.tasks) None ∙ sym size;
      each = λ t within. get-each None (length setup.tasks) t (subst (λ n. t < n) size within)
          ∙ ap (λ e. Some e) (sym (no-entry core (length setup.tasks) t));
    };
  };
}

-- a kernel to which nothing was offered, with what is kept for it
pub stand-unoffered : (setup : Setup) (core : Core) (k : Kept) (s : Stand) (count : ℕ) → length setup.tasks ≤ 200 →
    IsLawful setup (unoffered core (length setup.tasks)) → k ≡ unoffered core (length setup.tasks) →
    count ≡ length k.core.tasks → s ≡ no_stand count → IsWhole k s
stand-unoffered setup core k s count few lawful e same empty =
    let size : count ≡ length setup.tasks = same ∙ ap (λ (x : Kept). length x.core.tasks) e ∙ lawful.tasks in
    subst (λ (x : Kept). IsWhole x s) (sym e)
    (subst (λ (x : Stand). IsWhole (unoffered core (length setup.tasks)) x) (sym (empty ∙ ap no_stand size))
    (kept-unoffered setup core few lawful.tasks lawful))

pub stand-opening : (setup : Setup) (k : Kept) (s : Stand) (count : ℕ) → IsSetup setup → k ≡ at_start setup →
    count ≡ length k.core.tasks → s ≡ no_stand count → IsWhole k s
stand-opening setup k s count is e same empty =
    stand-unoffered setup (opening setup) k s count is.few_tasks (lawful-opening setup is) e same empty

-- A KERNEL OF A RECORD

pub lawful-record : (setup : Setup) (core : CoreRecord) → IsRecordable setup (core_made setup core) →
    IsLawful setup (from_record setup core)
lawful-record setup core is = record {
  tasks = size;
  counts = is.counts.as_many;
  counted = is.counts.small;
  kinds = is.kinds;
  urgent = is.urgent;
  plans = is.times.lawful;
  moment = is.times.moment;
  timed = is.times.rows;
  declared = is.declared;
  last = is.last;
  same = length-replicate (length setup.tasks) None ∙ sym size;
  quiet = λ t e. none-offered (length setup.tasks) t;
  fits = λ t a e. absurd (none-some a (sym (none-offered (length setup.tasks) t) ∙ e));
  told = tt;
}
  where
    size : length (core_made setup core).tasks ≡ length setup.tasks
    size = sym (length-map (core_made setup core).tasks declared_of) ∙ ap (λ ns. length ns) is.declared
        ∙ length-map setup.tasks (λ task. task.priority)

pub stand-record : (setup : Setup) (core : CoreRecord) (k : Kept) (s : Stand) (count : ℕ) → IsSetup setup →
    IsRecordable setup (core_made setup core) → k ≡ from_record setup core → count ≡ length k.core.tasks →
    s ≡ no_stand count → IsWhole k s
stand-record setup core k s count is made e same empty =
    stand-unoffered setup (core_made setup core) k s count is.few_tasks (lawful-record setup core made) e same empty

-- what is recorded of a kernel makes the same core again
abbrev pub IsAgain : Kept → CoreRecord → Type 0
IsAgain k core = (setup : Setup) → IsLawful setup k → IsRecord setup core × (core_made setup core ≡ untold k.core)

pub record-again : {E : Type 0} (k : Kept) → ((setup : Setup) (core : Core) → IsRecordable setup core → core_made setup (record_of core) ≡ untold core) →
    ((setup : Setup) (core : Core) → IsRecordable setup core → AllEnd (record_of core) → IsRecord setup (record_of core)) →
    (result : Result CoreRecord E) → IfOk result (λ core. core ≡ record_of k.core) → IfOk result AllEnd → IfOk result (IsAgain k)
record-again k again lawful (Ok core) same ends = λ setup is.
    let before = recordable setup k is in (
      subst (IsRecord setup) (sym same) (lawful setup k.core before (subst AllEnd same ends)),
      ap (core_made setup) same ∙ again setup k.core before,
    )
record-again k again lawful (Err fault) same ends = tt
