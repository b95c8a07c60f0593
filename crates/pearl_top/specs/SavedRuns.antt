-- When a run that was saved goes on as if it had not been stopped, told of the bytes of files.
use Rattle.std.specs.Prelude.{◌≡◌, ◌↔◌, ℕ, ◌+◌, ◌≤◌, List, ◌∷◌, ◌++◌, length}
use Rattle.pearl_rules.specs.declared.entry.Entry.{Entry}
use Rattle.pearl_run_laws.specs.Parts.{IsParted}
use Rattle.pearl_fields.specs.Codec.{IsBytes}
use Rattle.pearl_instructions.specs.declared.object.Parts.{Parts as Object}
use Rattle.pearl_instructions.specs.Setups.{setup_of}
use Rattle.pearl_journal.specs.Entries.{All, entries}
use Rattle.pearl_journal.specs.Lines.{journal_lines}
use Rattle.pearl_journal_laws.specs.Later.{EndsEachLine, HasNoClock}
use Rattle.pearl_script.specs.declared.refusal.Refusal.TheVariants as refusal
use Rattle.pearl_script.specs.Lines.{lines_of}
use Rattle.pearl_script.specs.Refusals.{refusal_line}
use Rattle.pearl_top.specs.declared.limits.TheConstants.{JOURNAL_LIMIT, SNAPSHOT_LIMIT}
use Rattle.pearl_top.specs.declared.status.Status.{Status}
use Rattle.pearl_top.specs.declared.status.Status.TheVariants.{Done, BadJournal}
use Rattle.pearl_top.specs.Commands.{Exec, Save, Resume}
use Rattle.pearl_top.specs.ObjectDue.{IsCodeOf}
use Rattle.pearl_top.specs.Outcome.{IsOutcome}
use Rattle.pearl_top.specs.Runners.{CodeEnds, by_code}
use Rattle.pearl_top.specs.Transcript.{Close, Closed, Ended, closing}

-- The transcript of an object's own machine over a journal has two parts: the lines of all that is told, and behind
-- them the closing lines, which are those of the tasks' states and the last one.
pub record IsTranscriptOf (object journal front last : List ℕ) : Type 0 where
  pub o : Object
  pub code : IsCodeOf object o
  pub es : List Entry
  pub read : entries (setup_of o) (journal_lines journal) ≡ record { accepted = es; ending = All }
  pub end : Ended
  pub ends : CodeEnds o es end
  pub told : front ≡ lines_of (setup_of o) end.told
  pub closes : last ≡ closing (setup_of o) end Closed

-- the same bytes, but that the line of a refused journal at their end names a line so much later
pub record IsRefusedLater (count : ℕ) (bytes others : List ℕ) : Type 0 where
  pub text : List ℕ
  pub line : ℕ
  pub code : ℕ
  pub is : bytes ≡ text ++ refusal_line (refusal.Journal line code)
  pub later : others ≡ text ++ refusal_line (refusal.Journal (line + count) code)

-- the same bytes, the number of a refused line aside
abbrev pub AreRenumbered : (count : ℕ) → Status → (bytes others : List ℕ) → Type 0
AreRenumbered count BadJournal bytes others = IsRefusedLater count bytes others
AreRenumbered count status bytes others = others ≡ bytes

-- `exec` over a journal writes these bytes behind the front, and ends with this status
pub record EndsBehind (object journal : List ℕ) (files : List ℕ → List ℕ) (front : List ℕ) (count : ℕ)
    (status : Status) (bytes : List ℕ) : Type 0 where
  pub others : List ℕ
  pub renumbered : AreRenumbered count status bytes others
  pub outcome : IsOutcome (Exec object journal) files status (front ++ others)

-- `exec` writes a transcript over the first journal. Without its closing lines, and with whatever `resume` writes over
-- the second one behind it, it is what `exec` writes over the whole, with the same status.
pub record GoesOn (object snapshot first second whole : List ℕ) (files : List ℕ → List ℕ) : Type 0 where
  pub front : List ℕ
  pub last : List ℕ
  pub parts : IsTranscriptOf (files object) (files first) front last
  pub first_ends : IsOutcome (Exec object first) files Done (front ++ last)
  pub goes_on : (status : Status) (bytes : List ℕ) → IsOutcome (Resume snapshot second) files status bytes →
      EndsBehind object whole files front (length (journal_lines (files first))) status bytes

-- A file holds what `save` wrote of an object over a first journal, of which each line is ended. A second journal has
-- no line that sets the clock, and a third file holds both, one behind the other. Then `resume` goes on with the run.
abbrev pub SavedRunsGoOn : Type 0
SavedRunsGoOn = (object snapshot first second whole : List ℕ) (files : List ℕ → List ℕ) →
    IsOutcome (Save object first) files Done (files snapshot) → IsBytes (files snapshot) →
    length (files snapshot) ≤ SNAPSHOT_LIMIT → EndsEachLine (files first) → HasNoClock (journal_lines (files second)) →
    files whole ≡ files first ++ files second → length (files whole) ≤ JOURNAL_LIMIT →
    GoesOn object snapshot first second whole files

-- Over an entry in two parts, wherever it stands, an object's own machine writes what it writes over the entry. So a
-- first journal may end after any mark of it.
abbrev pub PartsWriteAlike : Type 0
PartsWriteAlike = (o : Object) (before after : List Entry) (one : Entry) (parts : List Entry) → IsParted one parts →
    (close : Close) (bytes : List ℕ) →
    (by_code o).writes (before ++ one ∷ after) close bytes ↔ (by_code o).writes (before ++ (parts ++ after)) close bytes
