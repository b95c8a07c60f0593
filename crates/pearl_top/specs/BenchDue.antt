-- What is due for the workload of a number: the line that sums up what its run writes. Its source and its journal are read from no file.
use Rattle.std.specs.Prelude.{◌≡◌, ℕ, List}
use Rattle.pearl_bench.specs.Counts.{summary_of}
use Rattle.pearl_bench.specs.Texts.{journal_of, source_of}
use Rattle.pearl_journal.specs.Entries.{All}
use Rattle.pearl_journal.specs.Lines.{journal_lines}
use Rattle.pearl_program.specs.PlainPrograms.{PlainProg}
use Rattle.pearl_top.specs.declared.status.Status.{Status}
use Rattle.pearl_top.specs.CheckDue.{IsUnaccepted}
use Rattle.pearl_top.specs.JournalDue.{IsRun}
use Rattle.pearl_top.specs.Reading.{DueAtSource}
use Rattle.pearl_top.specs.RunDue.{IsSource}
use Rattle.pearl_top.specs.Runners.{by_rules}
use Rattle.pearl_top.specs.Transcript.{Closed}

-- the source means a program, of which the task rules write this transcript over the journal of the workload
pub record IsWorked (source transcript : List ℕ) : Type 0 where
  pub p : PlainProg
  pub is_source : IsSource source p
  pub run : IsRun (by_rules p) (journal_lines journal_of) All Closed transcript

-- its own source does, and this is the line that sums the transcript up
pub record IsBench (n : ℕ) (bytes : List ℕ) : Type 0 where
  pub transcript : List ℕ
  pub worked : IsWorked (source_of n) transcript
  pub text : bytes ≡ summary_of n transcript

-- what is due: that line, or the refusal of a source that is none
abbrev pub BenchDue : ℕ → Status → List ℕ → Type 0
BenchDue n = DueAtSource (source_of n) (IsBench n) (IsUnaccepted (source_of n)) ⊥
