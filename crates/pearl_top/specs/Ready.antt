-- When a machine is ready to run from its start.
use Rattle.std.specs.Prelude.{◌≡◌, ℕ, List, [], length}
use Rattle.pearl_rules.specs.declared.entry.Entry.{Entry}
use Rattle.pearl_rules.specs.Entries.{AreFitting}
use Rattle.pearl_rules.specs.Faithful.{IsFaithful}
use Rattle.pearl_rules.specs.Laws.{HasEnded}
use Rattle.pearl_rules.specs.Runs.{Machine, Supplier, machine_start}
use Rattle.pearl_program.specs.PlainPrograms.{PlainProg}
use Rattle.pearl_instructions.specs.declared.object.Parts.{Parts as Object}
use Rattle.pearl_instructions.specs.Engines.{engine, total_rows}
use Rattle.pearl_instructions.specs.Setups.{setup_of}
use Rattle.pearl_instructions.specs.Valid.{IsValid}
use Rattle.pearl_faithful.specs.Faithful.{IsFaithfulTo}
use Rattle.pearl_stack.specs.Frames.{Frame}
use Rattle.pearl_machine.specs.Seen.{Seen}

-- the state of an object's run before its first step
abbrev pub start_of : Object → List Entry → Machine (List Frame)
start_of o es = machine_start (engine o) (setup_of o) es

-- a machine with an object at the start of its run: what opens the run is told, and not written yet
abbrev pub started : Object → Seen
started o = record { object = o; state = start_of o [] }

-- the object's code runs as some task rules say, and its run over any entries that fit comes to its end
pub record RunsByRules (o : Object) : Type 0 where
  pub offer : Supplier
  pub runs : IsFaithful offer (engine o) (setup_of o) (length o.tasks) (total_rows o)
  pub finishes : (es : List Entry) → AreFitting (setup_of o) es → (n : ℕ) × HasEnded (engine o) (setup_of o) es n

-- it stands at the start of a run of its object, of which nothing is written yet
pub record IsReady (seen : Seen) : Type 0 where
  pub rules : RunsByRules seen.object
  pub starts : seen ≡ started seen.object

-- and its object is this one, which is valid
pub record IsReadyWith (o : Object) (seen : Seen) : Type 0 where
  pub valid : IsValid o
  pub is : seen.object ≡ o
  pub ready : IsReady seen

-- and its object does what the program means
pub record IsReadyFor (p : PlainProg) (seen : Seen) : Type 0 where
  pub faithful : IsFaithfulTo p seen.object
  pub ready : IsReady seen
