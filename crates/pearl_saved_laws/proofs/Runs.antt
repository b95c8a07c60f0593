-- Each state of a valid object's run is in order, and its core can be recorded up to the last moment that there is.
use Rattle.std.proofs.Common.{ℕ, List}
use Rattle.std.proofs.lemmas.List.{length-map}
use Rattle.pearl_rules.specs.declared.entry.Entry.{Entry}
use Rattle.pearl_rules.specs.Core.{Core, first_row, opening}
use Rattle.pearl_rules.specs.Entries.{AreFitting}
use Rattle.pearl_rules.specs.Runs as runs
use Rattle.pearl_rules.proofs.Offered.{opening-kinds}
use Rattle.pearl_stack.specs.Frames.{Frame}
use Rattle.pearl_instructions.specs.declared.object.Parts.{Parts as Object}
use Rattle.pearl_instructions.specs.Engines.{engine, machine_run}
use Rattle.pearl_instructions.specs.Lawful.{IsObject}
use Rattle.pearl_instructions.specs.Owners.{rows_left}
use Rattle.pearl_instructions.specs.RunLaws.{AreTables}
use Rattle.pearl_instructions.specs.Setups.{setup_of}
use Rattle.pearl_instructions.specs.Valid.{IsValid}
use Rattle.pearl_saved_laws.proofs.Cores.{StayRecordable, TimePasses, UpToLast, recordable_kept}
use Rattle.pearl_saved_laws.proofs.Objects.{Here, SoundCode}
use Rattle.pearl_saved_laws.proofs.Sound.{Keeps, Good, after_good, start_good}

-- the code of each object is sound, and its tables are lawful
pub record AreSound : Type 0 where
  pub code : (o : Object) → IsValid o → IsObject o → SoundCode o
  pub tables : AreTables

-- in each state of a run what every mark keeps of the core holds
pub run_good : AreSound → (o : Object) → IsValid o → IsObject o → (P : Core → Type 0) → Keeps (setup_of o) P →
    P (opening (setup_of o)) → (es : List Entry) → AreFitting (setup_of o) es → (n : ℕ) →
    Good (setup_of o) (engine o) (Here o) P (machine_run o es n)
run_good sound o valid lawful P keeps opens es fits n =
    let setup = setup_of o in
    let is = sound.tables o lawful in
    let code = sound.code o valid lawful in
    let weight : ℕ → List Frame → ℕ = λ t frames. rows_left o frames in
    after_good setup (engine o) (Here o) weight code P keeps (runs.machine_start (engine o) setup es)
    (start_good setup (engine o) (Here o) weight code P keeps (opening setup) es
    opens (opening-kinds setup is.slots is.devices) (length-map setup.tasks first_row) fits) n

pub run_recordable : AreSound → StayRecordable → TimePasses → (o : Object) → IsValid o → IsObject o →
    (es : List Entry) → AreFitting (setup_of o) es → (n : ℕ) →
    Good (setup_of o) (engine o) (Here o) (UpToLast (setup_of o)) (machine_run o es n)
run_recordable sound stay time o valid lawful es fits n =
    run_good sound o valid lawful (UpToLast (setup_of o)) (recordable_kept stay time (setup_of o))
    (λ near. stay.opens (setup_of o) (sound.tables o lawful)) es fits n
