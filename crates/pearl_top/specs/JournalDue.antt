-- What is due at and after a journal, for whatever runs over it.
use Rattle.std.specs.Prelude.{◌≡◌, ℕ, ◌+◌, ◌<◌, ◌≤◌, ◌⊎◌, List, length, take, nat_le, Bool, true, false}
use Rattle.pearl_rules.specs.declared.entry.Entry.{Entry}
use Rattle.pearl_script.specs.declared.refusal.Refusal.TheVariants as refusal
use Rattle.pearl_top.specs.declared.limits.TheConstants.{JOURNAL_LIMIT}
use Rattle.pearl_top.specs.declared.status.Status.{Status}
use Rattle.pearl_top.specs.declared.status.Status.TheVariants.{Done, BadJournal, ReadFault, TooLong}
use Rattle.pearl_journal.specs.Entries.{Ending, All, Bad, entries_from}
use Rattle.pearl_journal.specs.Lines.{journal_lines, ended_lines}
use Rattle.pearl_top.specs.Reading.{Sort, DueAt}
use Rattle.pearl_top.specs.Runners.{Runner}
use Rattle.pearl_top.specs.Transcript.{Close, Closed, Cut}

-- the entries of these lines, by the tables, end so, and what their run writes, with what closes it, are these bytes
pub record IsRun (runner : Runner) (lines : List (List ℕ)) (ending : Ending) (close : Close) (bytes : List ℕ) : Type 0 where
  pub es : List Entry
  pub read : entries_from runner.setup runner.first lines ≡ record { accepted = es; ending = ending }
  pub written : runner.writes es close bytes

abbrev pub handled_if : Bool → List ℕ → List (List ℕ)
handled_if true journal = journal_lines journal
handled_if false journal = ended_lines (take JOURNAL_LIMIT journal)

-- the lines that are handled: all, or where the journal is too long those that end within the limit
abbrev pub handled : List ℕ → List (List ℕ)
handled journal = handled_if (nat_le (length journal) JOURNAL_LIMIT) journal

-- a line of the journal is refused after the run over the lines before it
pub record IsBadJournal (runner : Runner) (journal bytes : List ℕ) : Type 0 where
  pub line : ℕ
  pub code : ℕ
  pub run : IsRun runner (handled journal) (Bad line code) (Cut (refusal.Journal line code)) bytes

-- the lines that end within so many bytes were handled before the fault of reading
pub record IsReadFault (runner : Runner) (journal bytes : List ℕ) : Type 0 where
  pub count : ℕ
  pub within : count ≤ JOURNAL_LIMIT
  pub run : IsRun runner (ended_lines (take count journal)) All (Cut refusal.Read) bytes

-- What is due with each way to end at or after a journal: all its lines were accepted; one was refused; it
-- has too many bytes; reading it failed, where its count of faults rose. Memory can't be out any more.
abbrev pub JournalDue : Runner → List ℕ → Type 0 → Status → List ℕ → Type 0
JournalDue runner journal rose Done bytes = (length journal ≤ JOURNAL_LIMIT) × IsRun runner (journal_lines journal) All Closed bytes
JournalDue runner journal rose BadJournal bytes = IsBadJournal runner journal bytes
JournalDue runner journal rose TooLong bytes =
    (JOURNAL_LIMIT < length journal) × IsRun runner (handled journal) All (Cut (refusal.TooLong (JOURNAL_LIMIT + 1))) bytes
JournalDue runner journal rose ReadFault bytes = rose × IsReadFault runner journal bytes
JournalDue runner journal rose status bytes = ⊥

-- what is due at a file, with which no command is done, or where it holds something at the journal, of what runs over that; each
-- with the cause of a fault of reading it
abbrev pub DueFrom : {X : Type 0} → Sort → List ℕ → (refused : List ℕ → Type 0) → (holds : X → Type 0) → (X → Runner) → (journal : List ℕ) → (rose also : Type 0) →
    Status → List ℕ → Type 0
DueFrom {X} sort file refused holds runner journal rose also status bytes =
    DueAt sort file (λ bytes. ⊥) refused rose status bytes ⊎ ((x : X) × holds x × JournalDue (runner x) journal also status bytes)
