-- Which words and files bring a command to its end.
use Rattle.std.specs.Prelude.{◌≡◌, ℕ, ◌≤◌, List, length}
use Rattle.pearl_tree.specs.declared.tree.Tree.{Tree}
use Rattle.pearl_rules.specs.declared.entry.Entry.{Entry}
use Rattle.pearl_program.specs.PlainPrograms.{PlainProg}
use Rattle.pearl_instructions.specs.declared.object.Parts.{Parts as Object}
use Rattle.pearl_instructions.specs.Setups.{setup_of}
use Rattle.pearl_top.specs.declared.limits.TheConstants.{JOURNAL_LIMIT}
use Rattle.pearl_top.specs.Commands.{Command, Run, Check, Print, Compile, Exec, Listed, Bench, Watch, Save, Resume, NoCommand}
use Rattle.pearl_top.specs.CheckDue.{BreaksNone}
use Rattle.pearl_journal.specs.Entries.{All, entries, entries_from}
use Rattle.pearl_journal.specs.Lines.{journal_lines}
use Rattle.pearl_meaning.specs.ProgramRuns.{setup_of as tables_of}
use Rattle.pearl_watch.specs.Watched.{AreAccepted}
use Rattle.pearl_bench.specs.Texts.{journal_of, source_of}
use Rattle.pearl_top.specs.ObjectDue.{IsCodeOf, IsFileOf}
use Rattle.pearl_saved.specs.declared.saved.Saved.{Saved}
use Rattle.pearl_top.specs.ResumeDue.{IsStateOf}
use Rattle.pearl_top.specs.RunDue.{IsSource}
use Rattle.pearl_top.specs.Runners.{Runner, by_state}
use Rattle.pearl_top.specs.Sources.{IsTree}

-- an accepted source, and a journal of which all lines are accepted, each within its limit
pub record AreInOrder (source journal : List ℕ) : Type 0 where
  pub p : PlainProg
  pub is_source : IsSource source p
  pub within : length journal ≤ JOURNAL_LIMIT
  pub es : List Entry
  pub read : entries (tables_of p) (journal_lines journal) ≡ record { accepted = es; ending = All }

-- a valid object, and a journal of which all lines are accepted by its tables, each within its limit
pub record CanExecute (object journal : List ℕ) : Type 0 where
  pub o : Object
  pub is : IsCodeOf object o
  pub within : length journal ≤ JOURNAL_LIMIT
  pub es : List Entry
  pub read : entries (setup_of o) (journal_lines journal) ≡ record { accepted = es; ending = All }

-- and none of the names is refused
pub record CanWatch (object journal : List ℕ) (names : List (List ℕ)) : Type 0 where
  pub can : CanExecute object journal
  pub accepted : AreAccepted can.o.leaves names

-- a snapshot from which a run can go on, and a journal of which all lines are accepted from there on, each within its limit
pub record CanResume (snapshot journal : List ℕ) : Type 0 where
  pub state : Object × Saved
  pub is : IsStateOf snapshot state
  pub within : length journal ≤ JOURNAL_LIMIT
  pub es : List Entry
  pub read : entries_from (setup_of state.0) (by_state state.0 state.1).first (journal_lines journal) ≡ record { accepted = es; ending = All }

-- the words are a command, and the files that they name are in order
abbrev pub IsInOrder : Command → (List ℕ → List ℕ) → Type 0
IsInOrder NoCommand files = ⊥
IsInOrder (Run source journal) files = AreInOrder (files source) (files journal)
IsInOrder (Check source) files = BreaksNone (files source)
IsInOrder (Print source) files = (tree : Tree) × IsTree (files source) tree
IsInOrder (Compile source) files = BreaksNone (files source)
IsInOrder (Exec object journal) files = CanExecute (files object) (files journal)
IsInOrder (Listed object) files = (o : Object) × IsFileOf (files object) o
IsInOrder (Watch object journal names) files = CanWatch (files object) (files journal) names
IsInOrder (Save object journal) files = CanExecute (files object) (files journal)
IsInOrder (Resume snapshot journal) files = CanResume (files snapshot) (files journal)
IsInOrder (Bench n) files = AreInOrder (source_of n) journal_of
