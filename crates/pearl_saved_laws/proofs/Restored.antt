-- A state that keeps the rules on saved states is in order, so that a run which goes on from it comes to its end.
use Rattle.std.proofs.Common.{◌≡◌, ℕ, zero, suc, ◌+◌, ◌≤◌, List, [], ◌∷◌, Some, None, length, refl, sym, ap, subst, ◌∙◌}
use Rattle.std.proofs.Common.{zero-add, add-zero, arith}
use Rattle.std.specs.Prelude.{map}
use Rattle.std.specs.List.{AllByRecursion}
use Rattle.std.proofs.lemmas.List.{length-map}
use Rattle.std.proofs.lemmas.Option.{none-some, same_Some}
use Rattle.pearl_rules.specs.declared.entry.Entry.{Entry}
use Rattle.pearl_rules.specs.declared.setup.Setup.{Setup}
use Rattle.pearl_rules.specs.Core.{Core}
use Rattle.pearl_rules.specs.Entries.{AreFitting}
use Rattle.pearl_rules.specs.Runs.{Running, kept_at}
use Rattle.pearl_rules.specs.Slots.{HasKinds}
use Rattle.pearl_rules.specs.Tables.{IsSetup}
use Rattle.pearl_stack.specs.Frames.{Frame}
use Rattle.pearl_instructions.specs.declared.object.Parts.{Parts as Object}
use Rattle.pearl_instructions.specs.Engines.{engine}
use Rattle.pearl_instructions.specs.Lawful.{IsObject}
use Rattle.pearl_instructions.specs.Owners.{rows_left}
use Rattle.pearl_instructions.specs.RunLaws.{AreTables}
use Rattle.pearl_instructions.specs.Setups.{entry_of, setup_of}
use Rattle.pearl_records.specs.declared.record.CoreRecord.{CoreRecord}
use Rattle.pearl_records.specs.declared.record.Standing.{Standing}
use Rattle.pearl_records.specs.declared.record.Standing.TheVariants.{Dormant, Active}
use Rattle.pearl_records.specs.declared.record.TaskRecord.{TaskRecord}
use Rattle.pearl_records.specs.Records.{rows_made, core_made, IsRecordable}
use Rattle.pearl_records.specs.States.{HasParts, HasNumbers, HasUrgencies, IsPlanned, EndSooner, IsRecord}
use Rattle.pearl_saved.specs.declared.saved.FrameRecord.{FrameRecord}
use Rattle.pearl_saved.specs.declared.saved.Saved.{Saved}
use Rattle.pearl_saved.specs.Laws.{FramesAreOfAStack}
use Rattle.pearl_saved.specs.Rules.{HasStack, HasStacks, AllRefer, IsMachineState}
use Rattle.pearl_saved.specs.Stacks.{frames_made}
use Rattle.pearl_machine.specs.Resumed.{running_made, all_made}
use Rattle.pearl_saved_laws.specs.Going.{going_on}
use Rattle.pearl_saved_laws.specs.Laws.{RestoredRunsEnd}
use Rattle.pearl_saved_laws.proofs.Ending.{ends}
use Rattle.pearl_saved_laws.proofs.Objects.{Here}
use Rattle.pearl_saved_laws.proofs.Runs.{AreSound}
use Rattle.pearl_saved_laws.proofs.Sound.{Keeps, Stands, Good}

-- the core that is made of a record can be recorded
abbrev pub AreRecordable : Type 0
AreRecordable = (setup : Setup) (core : CoreRecord) → IsSetup setup → IsRecord setup core →
    IsRecordable setup (core_made setup core)

-- ---- kinds, which don't hang on tasks

abbrev asleep : TaskRecord → TaskRecord
asleep row = record { standing = Dormant; continuation = None; activation = None }

abbrev all_asleep : CoreRecord → CoreRecord
all_asleep core = record core { tasks = map asleep core.tasks }

asleep_urgent : (rows : List TaskRecord) → AllByRecursion HasUrgencies (map asleep rows)
asleep_urgent [] = tt
asleep_urgent (row ∷ rows) = ((tt, tt), asleep_urgent rows)

asleep_planned : (setup : Setup) (rows : List TaskRecord) → AllByRecursion (IsPlanned setup) (map asleep rows)
asleep_planned setup [] = tt
asleep_planned setup (row ∷ rows) =
    (record { dormant = λ e. refl; goes_on = tt; starts = tt }, asleep_planned setup rows)

asleep_end : (rows : List TaskRecord) → AllByRecursion EndSooner (map asleep rows)
asleep_end [] = tt
asleep_end (row ∷ rows) = ((tt, tt), asleep_end rows)

asleep_record : (setup : Setup) (core : CoreRecord) → HasParts setup core → HasNumbers setup core →
    IsRecord setup (all_asleep core)
asleep_record setup core parts numbers = record {
  parts = record {
    slots = parts.slots;
    as_many_counts = parts.as_many_counts;
    counts = parts.counts;
    switches = parts.switches;
    as_many_terminals = parts.as_many_terminals;
    terminals = parts.terminals;
    inputs = parts.inputs;
    tasks = length-map core.tasks asleep ∙ parts.tasks;
  };
  numbers = record {
    moment = numbers.moment;
    clock = numbers.clock;
    last = numbers.last;
    priorities = asleep_urgent core.tasks;
  };
  spans = asleep_planned setup core.tasks;
  ends = asleep_end core.tasks;
}

made_kinds : AreRecordable → (setup : Setup) (core : CoreRecord) → IsSetup setup → HasParts setup core →
    HasNumbers setup core → HasKinds setup (core_made setup core)
made_kinds law setup core lawful parts numbers =
    let kinds = (law setup (all_asleep core) lawful (asleep_record setup core parts numbers)).kinds in
    record { slots = kinds.slots; channels = kinds.channels; formats = kinds.formats }

-- ---- tasks and stacks

made_long : (declared : List ℕ) (rows : List TaskRecord) → length declared ≡ length rows →
    length (rows_made declared rows) ≡ length rows
made_long [] [] same = refl
made_long [] (row ∷ rows) same = absurd (omega (arith, same))
made_long (d ∷ declared) [] same = absurd (omega (arith, same))
made_long (d ∷ declared) (row ∷ rows) same = ap suc (made_long declared rows (omega (arith, same)))

made_many : (setup : Setup) (core : CoreRecord) → length core.tasks ≡ length setup.tasks →
    length (core_made setup core).tasks ≡ length setup.tasks
made_many setup core same =
    made_long (map (λ task. task.priority) setup.tasks) core.tasks
    (length-map setup.tasks (λ task. task.priority) ∙ sym same)
    ∙ same

stacks_long : (o : Object) (n : ℕ) (rows : List TaskRecord) (stacks : List (List FrameRecord)) →
    HasStacks o n rows stacks → length (all_made rows stacks) ≡ length rows
stacks_long o n [] stacks has = refl
stacks_long o n (row ∷ rows) [] has = absurd has
stacks_long o n (row ∷ rows) (frames ∷ stacks) has = ap suc (stacks_long o (n + 1) rows stacks has.1)

module _ (law : FramesAreOfAStack) (o : Object) where
  stands_one : (t : ℕ) (standing : Standing) (frames : List FrameRecord) (running : Running (List Frame)) →
      t + 1 ≤ length o.tasks →
      HasStack o t standing frames → AllRefer o [] frames → running_made standing frames ≡ Some running →
      Stands (engine o) (Here o) t running
  stands_one t Dormant frames running there has refer e = absurd (none-some running e)
  stands_one t (Active priority suspended kept) frames running there has refer e =
      let made : Running (List Frame) = record { stack = frames_made frames; offer = None } in
      subst (Stands (engine o) (Here o) t) (same_Some made running e) (record {
        here = record { there = omega (arith, there); own = (law o t frames has refer).0 };
        offers = λ action none. absurd (none-some action none);
      })

  stands_from : (n : ℕ) (rows : List TaskRecord) (stacks : List (List FrameRecord)) → HasStacks o n rows stacks →
      AllByRecursion (AllRefer o []) stacks → n + length rows ≤ length o.tasks →
      (i : ℕ) (running : Running (List Frame)) →
      kept_at (all_made rows stacks) i ≡ Some running → Stands (engine o) (Here o) (n + i) running
  stands_from n [] stacks has refer few i running e = absurd (none-some running e)
  stands_from n (row ∷ rows) [] has refer few i running e = absurd has
  stands_from n (row ∷ rows) (frames ∷ stacks) has refer few zero running e =
      subst (λ t. Stands (engine o) (Here o) t running) (sym (add-zero n))
      (stands_one n row.standing frames running (omega (arith, few)) has.0 refer.0 e)
  stands_from n (row ∷ rows) (frames ∷ stacks) has refer few (suc i) running e =
      let same : (n + 1) + i ≡ n + suc i = omega arith in
      subst (λ t. Stands (engine o) (Here o) t running) same
      (stands_from (n + 1) rows stacks has.1 refer.1 (omega (arith, few)) i running e)

-- ---- the end

-- any core will do
abbrev Any : Core → Type 0
Any core = Unit {0}

any_kept : (setup : Setup) → Keeps setup Any
any_kept setup = record {
  acts = λ core own action there active fits any. tt;
  turns = λ core offers t any. tt;
  tells = λ core told any. tt;
  passes = λ core any. tt;
  arrives = λ core entry fits any. tt;
}

in_order : AreRecordable → FramesAreOfAStack → AreTables → (o : Object) (s : Saved) → IsObject o → IsMachineState o s →
    (es : List Entry) → AreFitting (setup_of o) es → Good (setup_of o) (engine o) (Here o) Any (going_on o s es)
in_order recordable law tables o s lawful state es fits =
    let parts : HasParts (setup_of o) s.core = state 2 in
    let numbers : HasNumbers (setup_of o) s.core = state 3 in
    let stacks : HasStacks o 0 s.core.tasks s.stacks = state 5 in
    let refer : AllByRecursion (AllRefer o []) s.stacks = state 6 in
    let many : length s.core.tasks ≡ length o.tasks = parts.tasks ∙ length-map o.tasks entry_of in
    record {
      core = tt;
      kinds = made_kinds recordable (setup_of o) s.core (tables o lawful) parts numbers;
      tasks = made_many (setup_of o) s.core parts.tasks;
      places = stacks_long o 0 s.core.tasks s.stacks stacks ∙ parts.tasks;
      stand = λ t running e. subst (λ n. Stands (engine o) (Here o) n running) (zero-add t)
          (stands_from law o 0 s.core.tasks s.stacks stacks refer (omega (arith, many)) t running e);
      fits = fits;
    }

pub restored_runs_end : AreRecordable → FramesAreOfAStack → AreSound → RestoredRunsEnd
restored_runs_end recordable law sound o s lawful state es fits =
    let code = sound.code o (state 1) lawful in
    let end = ends (setup_of o) (engine o) (Here o) (λ t frames. rows_left o frames) code Any (any_kept (setup_of o))
    (going_on o s es) (in_order recordable law sound.tables o s lawful state es fits) in
    record { steps = end.steps; settled = end.settled; no_mark = end.no_mark }
