-- Where a machine stands behind a journal of which nothing was written, and when bytes are the snapshot of where it stands.
use Rattle.std.specs.Prelude.{◌≡◌, ℕ, ◌≤◌, List, [], None, length}
use Rattle.pearl_rules.specs.declared.entry.Entry.{Entry}
use Rattle.pearl_rules.specs.Core.{Report}
use Rattle.pearl_rules.specs.Runs.{unsettled}
use Rattle.pearl_instructions.specs.Setups.{setup_of}
use Rattle.pearl_journal.specs.Entries.{All, entries}
use Rattle.pearl_journal.specs.Lines.{journal_lines}
use Rattle.pearl_machine.specs.Resumed.{saved_of}
use Rattle.pearl_machine.specs.Seen.{Seen, Handles}
use Rattle.pearl_saved.specs.Rules.{IsMachineState}
use Rattle.pearl_snap.specs.Restoring.{IsSnapshot}
use Rattle.pearl_top.specs.declared.limits.TheConstants.{JOURNAL_LIMIT}

-- from where it stood the machine has gone over all entries of a journal, which is within its limit
pub record HasRun (old : Seen) (journal : List ℕ) (new : Seen) : Type 0 where
  pub within : length journal ≤ JOURNAL_LIMIT
  pub es : List Entry
  pub read : entries (setup_of old.object) (journal_lines journal) ≡ record { accepted = es; ending = All }
  pub told : List (ℕ × Report)
  pub handles : Handles old es [] new told
  pub object : new.object ≡ old.object
  pub rests : new.state.core.told ≡ []

-- these are the bytes of its object and of its state, once every active task has gone on from there to its next action
pub record IsSnapshotOf (seen : Seen) (bytes : List ℕ) : Type 0 where
  pub last : Seen
  pub handles : (from : List Entry) → Handles seen from from last []
  pub settled : unsettled last.state ≡ None
  pub object : last.object ≡ seen.object
  pub spelled : IsSnapshot bytes last.object (saved_of last.state)
  pub state : IsMachineState last.object (saved_of last.state)
