-- What runs over the entries of a journal: by which tables, from how far a journal was read, and what it writes.
use Rattle.std.specs.Prelude.{◌≡◌, ℕ, List, None}
use Rattle.pearl_rules.specs.declared.entry.Entry.{Entry}
use Rattle.pearl_rules.specs.declared.setup.Setup.{Setup}
use Rattle.pearl_rules.specs.Runs.{Supplier, Source, source_after, source_next, source_offers, source_start}
use Rattle.pearl_rules.specs.Runs.{Engine, Machine, machine_after, machine_next, machine_offers, machine_start, unsettled}
use Rattle.pearl_program.specs.PlainPrograms.{PlainProg}
use Rattle.pearl_meaning.specs.Programs.{offer}
use Rattle.pearl_meaning.specs.ProgramRuns.{setup_of as tables_of}
use Rattle.pearl_instructions.specs.declared.object.Parts.{Parts as Object}
use Rattle.pearl_instructions.specs.Engines.{engine}
use Rattle.pearl_instructions.specs.Setups.{setup_of}
use Rattle.pearl_journal.specs.Pieces.{begin_later, reading_at}
use Rattle.pearl_journal.specs.Readings.{Reading, start}
use Rattle.pearl_saved.specs.declared.saved.Saved.{Saved}
use Rattle.pearl_saved_laws.specs.Going.{going_on}
use Rattle.pearl_top.specs.Transcript.{Close, Ended, IsTranscript, ended_of}

-- The tables by which a journal is read and what is told is written, how far a journal counts as read before its first line, and what
-- is to be written of the run over some entries that is closed so.
pub record Runner : Type 1 where
  pub setup : Setup
  pub first : Reading
  pub writes : List Entry → Close → List ℕ → Type 0

-- a run by task rules, from this state, ends so: no mark comes any more
pub record EndsByRules (offer : Supplier) (from : Source) (end : Ended) : Type 0 where
  pub marks : ℕ
  pub no_mark : source_next offer (source_after offer from marks) ≡ None
  pub is : end ≡ ended_of (source_after offer from marks).core (source_offers offer (source_after offer from marks))

-- a run of code, from this state, ends so: every active task has offered its next action, and no mark comes any more
pub record EndsByCode {S : Type 0} (engine : Engine S) (from : Machine S) (end : Ended) : Type 0 where
  pub steps : ℕ
  pub settled : unsettled (machine_after engine from steps) ≡ None
  pub no_mark : machine_next (machine_after engine from steps) ≡ None
  pub is : end ≡ ended_of (machine_after engine from steps).core (machine_offers (machine_after engine from steps))

abbrev pub RulesEnd : PlainProg → List Entry → Ended → Type 0
RulesEnd p es = EndsByRules (offer p) (source_start (tables_of p) es)

abbrev pub CodeEnds : Object → List Entry → Ended → Type 0
CodeEnds o es = EndsByCode (engine o) (machine_start (engine o) (setup_of o) es)

-- a program's task rules, from its start: they write the transcript
abbrev pub by_rules : PlainProg → Runner
by_rules p = record { setup = tables_of p; first = start; writes = λ es. IsTranscript (tables_of p) (RulesEnd p es) }

-- an object's own machine, from its start
abbrev pub by_code : Object → Runner
by_code o = record { setup = setup_of o; first = start; writes = λ es. IsTranscript (setup_of o) (CodeEnds o es) }

-- an object's own machine, from a saved state of it: nothing opens the run, and the lines of its journal count anew, though entries
-- were accepted before
abbrev pub by_state : Object → Saved → Runner
by_state o s = record {
  setup = setup_of o;
  first = reading_at begin_later s.core.moment;
  writes = λ es. IsTranscript (setup_of o) (EndsByCode (engine o) (going_on o s es));
}
