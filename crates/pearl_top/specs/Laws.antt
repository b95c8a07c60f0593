-- The definitions determine the answer, what was compiled runs as its source does, and printing a printed text changes nothing.
use Rattle.std.specs.Prelude.{◌≡◌, ℕ, ◌≤◌, ◌↔◌, List, length}
use Rattle.pearl_rules.specs.declared.entry.Entry.{Entry}
use Rattle.pearl_rules.specs.Entries.{AreFitting}
use Rattle.pearl_program.specs.PlainPrograms.{PlainProg}
use Rattle.pearl_instructions.specs.declared.object.Parts.{Parts as Object}
use Rattle.pearl_instructions.specs.Lawful.{IsObject}
use Rattle.pearl_instructions.specs.Setups.{setup_of}
use Rattle.pearl_instructions.specs.Valid.{IsValid}
use Rattle.pearl_faithful.specs.Faithful.{IsFaithfulTo}
use Rattle.pearl_fields.specs.Codec.{IsBytes}
use Rattle.pearl_tree.specs.declared.token.Token.{Token}
use Rattle.pearl_tree.specs.declared.tree.Tree.{Tree}
use Rattle.pearl_tree.specs.Modules.{Spells}
use Rattle.pearl_lex.specs.Lexes.{Lexes}
use Rattle.pearl_print.specs.Reading.{FitsHours}
use Rattle.pearl_top.specs.declared.limits.TheConstants.{SOURCE_LIMIT, OBJECT_LIMIT}
use Rattle.pearl_top.specs.declared.status.Status.{Status}
use Rattle.pearl_top.specs.declared.status.Status.TheVariants.{Done}
use Rattle.pearl_top.specs.Commands.{Command, Run, Print, Compile, Exec, Save}
use Rattle.pearl_top.specs.CompileDue.{IsCompiled}
use Rattle.pearl_top.specs.Outcome.{IsOutcome}
use Rattle.pearl_top.specs.RunDue.{IsSource}
use Rattle.pearl_top.specs.Complete.{IsInOrder}
use Rattle.pearl_top.specs.Ready.{RunsByRules}
use Rattle.pearl_top.specs.Runners.{by_code, by_rules}
use Rattle.pearl_top.specs.SaveDue.{SaveDue}
use Rattle.pearl_top.specs.Transcript.{Close}

-- a source means one program
abbrev pub HasOneMeaning : Type 0
HasOneMeaning = (source : List ℕ) (p q : PlainProg) → IsSource source p → IsSource source q → p ≡ q

-- a source writes one thing over the entries of a journal
abbrev pub HasOneTranscript : Type 0
HasOneTranscript = (source : List ℕ) (p q : PlainProg) → IsSource source p → IsSource source q → (es : List Entry) (close : Close) (bytes others : List ℕ) →
    (by_rules p).writes es close bytes → (by_rules q).writes es close others → bytes ≡ others

-- an object that does what a program means writes the program's transcript over any entries that fit
abbrev pub ObjectsWriteAlike : Type 0
ObjectsWriteAlike = (p : PlainProg) (o : Object) → IsFaithfulTo p o → (es : List Entry) → AreFitting (setup_of o) es → (close : Close) (bytes : List ℕ) →
    (by_code o).writes es close bytes → (by_rules p).writes es close bytes

-- a valid object runs as some task rules say, and its runs come to their ends
abbrev pub ValidObjectsRun : Type 0
ValidObjectsRun = (o : Object) → IsValid o → IsObject o → RunsByRules o

-- a command and its files have at most one status
abbrev pub HasOneStatus : Type 0
HasOneStatus = (command : Command) (files : List ℕ → List ℕ) (status other : Status) (bytes others : List ℕ) →
    IsOutcome command files status bytes → IsOutcome command files other others → status ≡ other

-- the bytes of each object that does what the source means may be written
abbrev pub IsFree : Command → Status → Type 0
IsFree (Compile source) Done = Unit {0}
IsFree _ _ = ⊥

-- and with it at most one list of bytes, where they are not free
abbrev pub HasOneText : Type 0
HasOneText = (command : Command) (files : List ℕ → List ℕ) (status : Status) (bytes others : List ℕ) → (IsFree command status → ⊥) →
    IsOutcome command files status bytes → IsOutcome command files status others → bytes ≡ others

-- What `exec` writes of a file that holds what `compile` may write of a source, and how it ends, is just what `run` writes of the
-- source, and how it ends, over the same journal; where the object isn't too long.
abbrev pub CompiledRunsAlike : Type 0
CompiledRunsAlike = (source object journal : List ℕ) (files : List ℕ → List ℕ) → IsOutcome (Compile source) files Done (files object) →
    IsBytes (files object) → length (files object) ≤ OBJECT_LIMIT → (status : Status) (bytes : List ℕ) →
    IsOutcome (Exec object journal) files status bytes ↔ IsOutcome (Run source journal) files status bytes

-- there is an outcome in which the command is carried out to its end, and it is carried out to its end in each one
pub record EndsWell (command : Command) (files : List ℕ → List ℕ) : Type 0 where
  pub bytes : List ℕ
  pub outcome : IsOutcome command files Done bytes
  pub only : (status : Status) (others : List ℕ) → IsOutcome command files status others → status ≡ Done

-- there is something to be written: for `compile` some object that does what the source means, for `save` some snapshot of the run
abbrev pub HasSomething : Command → (List ℕ → List ℕ) → Type 0
HasSomething (Compile source) files = (bytes : List ℕ) × IsCompiled (files source) bytes
HasSomething (Save object journal) files = (bytes : List ℕ) × SaveDue (files object) (files journal) ⊥ ⊥ Done bytes
HasSomething _ _ = Unit {0}

-- so it is where its files are in order
abbrev pub FilesInOrderEndWell : Type 0
FilesInOrderEndWell = (command : Command) (files : List ℕ → List ℕ) → IsInOrder command files → HasSomething command files → EndsWell command files

-- no duration of the source has 2^63 hours or more, once its minutes and seconds are carried into them
abbrev pub HoursFit : List ℕ → Type 0
HoursFit source = (tokens : List Token) (tree : Tree) → Lexes source tokens → Spells tree tokens → FitsHours tree

-- What `print` writes of a file, it writes again of a file that holds just that, where the hours of the first fit and what was written is
-- no longer than a source may be.
abbrev pub PrintsItsText : Type 0
PrintsItsText = (source copy : List ℕ) (files : List ℕ → List ℕ) → HoursFit (files source) → length (files copy) ≤ SOURCE_LIMIT →
    IsOutcome (Print source) files Done (files copy) → IsOutcome (Print copy) files Done (files copy)
