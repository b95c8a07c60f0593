-- What is saved of a state of a run makes the same core and the same stacks.
use Rattle.std.proofs.Common.{◌≡◌, ℕ, suc, List, [], ◌∷◌, Bool, true, false, Option, Some, None, length, slice_get}
use Rattle.std.proofs.Common.{refl, sym, ap, ap₂, ◌∙◌, arith}
use Rattle.std.specs.Prelude.{is_some, map, option_map}
use Rattle.std.proofs.lemmas.Bool.{true≢false, false≢true}
use Rattle.pearl_rules.specs.declared.row.Kept.{Kept}
use Rattle.pearl_rules.specs.declared.row.Mode.{Mode}
use Rattle.pearl_rules.specs.declared.row.Mode.TheVariants.{Dormant, Active}
use Rattle.pearl_rules.specs.declared.row.TaskRow.{TaskRow}
use Rattle.pearl_rules.specs.declared.setup.Setup.{Setup}
use Rattle.pearl_rules.specs.Core.{Core, is_active, is_active_mode, is_active_row}
use Rattle.pearl_rules.specs.Runs.{Running, Machine, kept_at}
use Rattle.pearl_stack.specs.Frames.{Frame}
use Rattle.pearl_instructions.specs.Engines.{machine_run}
use Rattle.pearl_instructions.specs.Setups.{setup_of}
use Rattle.pearl_instructions_laws.specs.Bounds.{HasStacks}
use Rattle.pearl_instructions_laws.specs.Laws.{TasksHaveStacks}
use Rattle.pearl_records.specs.Records.{row_record, standing_record, record_of, core_made, untold, IsRecordable}
use Rattle.pearl_saved.specs.Laws.{StacksComeBack}
use Rattle.pearl_machine.specs.Resumed.{frames_in, running_made, all_made, unoffered}
use Rattle.pearl_saved_laws.specs.Laws.{StatesComeBack}
use Rattle.pearl_saved_laws.proofs.Cores.{StayRecordable, TimePasses}
use Rattle.pearl_saved_laws.proofs.Runs.{AreSound, run_recordable}

-- what is recorded of a core makes the same core
abbrev pub MakeTheSame : Type 0
MakeTheSame = (setup : Setup) (core : Core) → IsRecordable setup core → core_made setup (record_of core) ≡ untold core

abbrev with_stack : List Frame → Option (Running (List Frame))
with_stack frames = Some (record { stack = frames; offer = None })

abbrev more : Option (Running (List Frame)) → List (Option (Running (List Frame))) →
    List (Option (Running (List Frame)))
more x xs = x ∷ xs

module _ (back : StacksComeBack) where
  one_again : (mode : Mode) (kept : Kept) (x : Option (Running (List Frame))) → is_some x ≡ is_active_mode mode →
      running_made (standing_record mode kept) (frames_in x) ≡ option_map unoffered x
  one_again Dormant kept None e = refl
  one_again Dormant kept (Some running) e = absurd (true≢false e)
  one_again (Active priority suspended) kept None e = absurd (false≢true e)
  one_again (Active priority suspended) kept (Some running) e =
      ap with_stack (back running.stack)

  all_again : (rows : List TaskRow) (xs : List (Option (Running (List Frame)))) → length xs ≡ length rows →
      ((t : ℕ) → is_some (kept_at xs t) ≡ is_active_row (slice_get rows t)) →
      all_made (map row_record rows) (map frames_in xs) ≡ map (option_map unoffered) xs
  all_again [] [] same filled = refl
  all_again [] (x ∷ xs) same filled = absurd (omega (arith, same))
  all_again (row ∷ rows) [] same filled = absurd (omega (arith, same))
  all_again (row ∷ rows) (x ∷ xs) same filled =
      ap₂ more (one_again row.mode row.kept x (filled 0))
      (all_again rows xs (omega (arith, same)) (λ t. filled (suc t)))

-- exactly the active tasks have a stack
pub filled : (m : Machine (List Frame)) → HasStacks m → (t : ℕ) → is_some (kept_at m.running t) ≡ is_active m.core t
filled m has t = by (is_active m.core t) refl
  where
    by : (active : Bool) → is_active m.core t ≡ active → is_some (kept_at m.running t) ≡ active
    by true e = ap is_some (has.active t e).1
    by false e = ap is_some (has.dormant t e)

pub states_come_back : TasksHaveStacks → StacksComeBack → MakeTheSame → StayRecordable → TimePasses → AreSound →
    StatesComeBack
states_come_back stacks back same stay time sound o valid lawful es fits n near =
    let m = machine_run o es n in
    let good = run_recordable sound stay time o valid lawful es fits n in
    ap₂ (λ c xs. let r : Machine (List Frame) = record { core = c; running = xs; entries = [] } in r)
    (same (setup_of o) m.core (good.core near))
    (all_again back m.core.tasks m.running (good.places ∙ sym good.tasks) (filled m (stacks o es n)))
