-- What is due for a source that is run over a journal.
use Rattle.std.specs.Prelude.{ℕ, List}
use Rattle.pearl_tree.specs.ShownModules.{shown_tree}
use Rattle.pearl_program.specs.PlainPrograms.{PlainProg}
use Rattle.pearl_top.specs.declared.status.Status.{Status}
use Rattle.pearl_top.specs.CheckDue.{BreaksNone, IsUnaccepted}
use Rattle.pearl_top.specs.JournalDue.{DueFrom}
use Rattle.pearl_top.specs.Programs.{IsProgramOf}
use Rattle.pearl_top.specs.Reading.{ASource, DueAtSource}
use Rattle.pearl_top.specs.Runners.{by_rules}

-- these bytes, within the limit, are a module that breaks no rule; it means this program
pub record IsSource (source : List ℕ) (p : PlainProg) : Type 0 where
  pub is : BreaksNone source
  pub program : IsProgramOf (shown_tree is.tree) p

-- what is due at a source that is run, with which no command is done: the line of what it lacks or breaks
abbrev pub SourceDue : List ℕ → Type 0 → Status → List ℕ → Type 0
SourceDue source = DueAtSource source (λ bytes. ⊥) (IsUnaccepted source)

-- what is due at the source, or where it is accepted at the journal, of its task rules
abbrev pub RunDue : List ℕ → List ℕ → (source_rose journal_rose : Type 0) → Status → List ℕ → Type 0
RunDue source = DueFrom ASource source (IsUnaccepted source) (IsSource source) by_rules
