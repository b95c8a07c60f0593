-- What is due of a faithful object's own machine is due of the task rules of its program.
use Rattle.std.proofs.Common.{◌≡◌, ℕ, List, ◌++◌, ap, ap₂, sym, ◌∙◌, subst}
use Rattle.pearl_rules.specs.declared.entry.Entry.{Entry}
use Rattle.pearl_rules.specs.Entries.{AreFitting}
use Rattle.pearl_program.specs.PlainPrograms.{PlainProg}
use Rattle.pearl_meaning.specs.ProgramRuns.{setup_of as tables_of}
use Rattle.pearl_instructions.specs.declared.object.Parts.{Parts as Object}
use Rattle.pearl_instructions.specs.Engines.{marked}
use Rattle.pearl_instructions.specs.Setups.{setup_of}
use Rattle.pearl_faithful.specs.Faithful.{SharesTables, IsFaithfulTo, TellsAlike}
use Rattle.pearl_faithful.proofs.Offered.{tell_alike}
use Rattle.pearl_script.specs.Lines.{lines_of, close_line}
use Rattle.pearl_script.specs.Refusals.{refusal_line}
use Rattle.pearl_journal.specs.Entries.{Ending}
use Rattle.pearl_journal.specs.Readings as readings
use Rattle.pearl_journal.proofs.Offered.{entries-fit}
use Rattle.pearl_top.specs.declared.status.Status.{Status}
use Rattle.pearl_top.specs.declared.status.Status.TheVariants.{Done, Usage, Refused, BadObject, BadJournal, ReadFault, WriteFault, NoMemory, TooLong, BadName}
use Rattle.pearl_top.specs.JournalDue.{IsRun, JournalDue}
use Rattle.pearl_top.specs.Laws.{ObjectsWriteAlike}
use Rattle.pearl_top.specs.Runners.{CodeEnds, RulesEnd, by_code, by_rules}
use Rattle.pearl_top.specs.Transcript.{Close, Closed, Cut, Ended, closing}
use Rattle.pearl_top.proofs.Names.{lines_alike, entries_alike}

-- where its run ends, the rules' run ends alike
ends_too : (p : PlainProg) (o : Object) (es : List Entry) (end : Ended) → IsFaithfulTo p o → AreFitting (setup_of o) es →
    CodeEnds o es end → RulesEnd p es end
ends_too p o es end faithful fit last =
    let tells : TellsAlike p o es last.steps = tell_alike p o faithful es fit last.steps in record {
      marks = marked o es last.steps;
      no_mark = sym (tells.same_next last.settled) ∙ last.no_mark;
      is = last.is ∙ (λ i. record { told = tells.same_told i; stand = tells.same_states last.settled i; moment = tells.same_moment i });
    }

-- the lines by the object's tables are those by the program's
text_alike : (p : PlainProg) (o : Object) (end : Ended) (close : Close) → SharesTables p o →
    lines_of (setup_of o) end.told ++ closing (setup_of o) end close ≡ lines_of (tables_of p) end.told ++ closing (tables_of p) end close
text_alike p o end Closed tables =
    ap₂ (λ lines stand. lines ++ (stand ++ close_line end.moment)) (lines_alike p o tables end.told) (lines_alike p o tables end.stand)
text_alike p o end (Cut refusal) tables = ap (λ lines. lines ++ refusal_line refusal) (lines_alike p o tables end.told)

-- its transcript is theirs
pub written_alike : ObjectsWriteAlike
written_alike p o faithful es fit close bytes is = record {
  end = is.end;
  ends = ends_too p o es is.end faithful fit is.ends;
  text = is.text ∙ text_alike p o is.end close faithful.tables;
}

run_alike : (p : PlainProg) (o : Object) (lines : List (List ℕ)) (ending : Ending) (close : Close) (bytes : List ℕ) → IsFaithfulTo p o →
    IsRun (by_code o) lines ending close bytes → IsRun (by_rules p) lines ending close bytes
run_alike p o lines ending close bytes faithful run = record {
  es = run.es;
  read = sym (entries_alike p o faithful.tables lines) ∙ run.read;
  written = written_alike p o faithful run.es
      (subst (λ found. AreFitting (setup_of o) found.accepted) run.read (entries-fit (setup_of o) readings.start lines)) close bytes run.written;
}

-- and so is what is due over a journal
pub journals_alike : (p : PlainProg) (o : Object) → IsFaithfulTo p o → (journal : List ℕ) (rose : Type 0) (status : Status) (bytes : List ℕ) →
    JournalDue (by_code o) journal rose status bytes → JournalDue (by_rules p) journal rose status bytes
journals_alike p o faithful journal rose Done bytes due = (due.0, run_alike p o _ _ _ bytes faithful due.1)
journals_alike p o faithful journal rose Usage bytes due = due
journals_alike p o faithful journal rose Refused bytes due = due
journals_alike p o faithful journal rose BadObject bytes due = due
journals_alike p o faithful journal rose BadJournal bytes due =
    record { line = due.line; code = due.code; run = run_alike p o _ _ _ bytes faithful due.run }
journals_alike p o faithful journal rose ReadFault bytes due =
    (due.0, record { count = due.1.count; within = due.1.within; run = run_alike p o _ _ _ bytes faithful due.1.run })
journals_alike p o faithful journal rose WriteFault bytes due = due
journals_alike p o faithful journal rose NoMemory bytes due = due
journals_alike p o faithful journal rose TooLong bytes due = (due.0, run_alike p o _ _ _ bytes faithful due.1)
journals_alike p o faithful journal rose BadName bytes due = due
