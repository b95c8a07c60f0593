-- What is due for an object of which a run is saved.
use Rattle.std.specs.Prelude.{◌≡◌, ℕ, List, None}
use Rattle.pearl_rules.specs.declared.entry.Entry.{Entry}
use Rattle.pearl_rules.specs.Runs.{machine_after, machine_next, unsettled}
use Rattle.pearl_instructions.specs.declared.object.Parts.{Parts as Object}
use Rattle.pearl_instructions.specs.Engines.{engine}
use Rattle.pearl_instructions.specs.Setups.{setup_of}
use Rattle.pearl_journal.specs.Readings.{start}
use Rattle.pearl_machine.specs.Resumed.{saved_of}
use Rattle.pearl_saved.specs.Rules.{IsMachineState}
use Rattle.pearl_script.specs.Refusals.{refusal_line}
use Rattle.pearl_snap.specs.Restoring.{IsSnapshot}
use Rattle.pearl_top.specs.declared.status.Status.{Status}
use Rattle.pearl_top.specs.JournalDue.{DueFrom}
use Rattle.pearl_top.specs.ObjectDue.{IsCodeOf, IsRefused}
use Rattle.pearl_top.specs.Reading.{AnObject}
use Rattle.pearl_top.specs.Ready.{start_of}
use Rattle.pearl_top.specs.Runners.{Runner}
use Rattle.pearl_top.specs.Transcript.{Close, Closed, Cut}

-- These are the bytes of an object and of the state of its run after all marks of these entries, where every active task has offered
-- its next action; a run can go on from it.
pub record IsSaved (o : Object) (es : List Entry) (bytes : List ℕ) : Type 0 where
  pub steps : ℕ
  pub settled : unsettled (machine_after (engine o) (start_of o es) steps) ≡ None
  pub no_mark : machine_next (machine_after (engine o) (start_of o es) steps) ≡ None
  pub spelled : IsSnapshot bytes o (saved_of (machine_after (engine o) (start_of o es) steps))
  pub state : IsMachineState o (saved_of (machine_after (engine o) (start_of o es) steps))

-- what is written of a run that is saved, by how its journal ends: the snapshot, or the line of a refusal alone
abbrev pub WritesSaved : Object → List Entry → Close → List ℕ → Type 0
WritesSaved o es Closed bytes = IsSaved o es bytes
WritesSaved o es (Cut refusal) bytes = bytes ≡ refusal_line refusal

-- an object's own machine, from its start, of which the state at the end is saved
abbrev pub by_save : Object → Runner
by_save o = record { setup = setup_of o; first = start; writes = WritesSaved o }

-- what is due at the object, or where it is valid at the journal, of its own machine
abbrev pub SaveDue : List ℕ → List ℕ → (object_rose journal_rose : Type 0) → Status → List ℕ → Type 0
SaveDue file = DueFrom AnObject file (IsRefused file) (IsCodeOf file) by_save
