-- What was compiled runs as its source does.
use Rattle.std.proofs.Common.{◌≢◌, ◌≤◌, ℕ, List, length, ◌∙◌, subst, inl, inr}
use Rattle.pearl_program.specs.PlainPrograms.{PlainProg}
use Rattle.pearl_instructions.specs.declared.object.Parts.{Parts as Object}
use Rattle.pearl_fields.specs.Codec.{IsBytes}
use Rattle.pearl_faithful.specs.Faithful.{IsFaithfulTo}
use Rattle.pearl_journal.specs.Entries.{Ending}
use Rattle.pearl_top.specs.declared.limits.TheConstants.{OBJECT_LIMIT}
use Rattle.pearl_top.specs.declared.status.Status.{Status}
use Rattle.pearl_top.specs.declared.status.Status.TheVariants.{Done, Usage, Refused, BadObject, BadJournal, ReadFault, WriteFault, NoMemory, TooLong, BadName}
use Rattle.pearl_top.specs.CheckDue.{IsUnaccepted}
use Rattle.pearl_top.specs.CompileDue.{IsCompiled}
use Rattle.pearl_top.specs.JournalDue.{IsRun, JournalDue}
use Rattle.pearl_top.specs.Laws.{CompiledRunsAlike, ValidObjectsRun}
use Rattle.pearl_top.specs.ObjectDue.{ExecDue, IsCodeOf, IsRefused}
use Rattle.pearl_top.specs.Reading.{ASource, AnObject}
use Rattle.pearl_top.specs.Ready.{RunsByRules}
use Rattle.pearl_top.specs.RunDue.{IsSource, RunDue}
use Rattle.pearl_top.specs.Runners.{by_code, by_rules}
use Rattle.pearl_top.specs.Transcript.{Close}
use Rattle.pearl_top.proofs.CodeRuns.{has_written, read_fit}
use Rattle.pearl_top.proofs.FaithfulRuns.{journals_alike, written_alike}
use Rattle.pearl_top.proofs.FromLaws.{held_or_refused}
use Rattle.pearl_top.proofs.Loaded.{object_loaded, source_loaded}
use Rattle.pearl_top.proofs.Names.{entries_alike}
use Rattle.pearl_top.proofs.ObjectLaws.{one_code}
use Rattle.pearl_top.proofs.OneProgram.{one_meaning, transcript_once}

-- what the rules' run writes, a faithful object's own machine writes
run_back : (p : PlainProg) (o : Object) → IsFaithfulTo p o → RunsByRules o → (lines : List (List ℕ)) (ending : Ending) (close : Close) (bytes : List ℕ) →
    IsRun (by_rules p) lines ending close bytes → IsRun (by_code o) lines ending close bytes
run_back p o faithful rules lines ending close bytes run =
    let read = entries_alike p o faithful.tables lines ∙ run.read in
    let fit = read_fit o lines run.es ending read in
    let made = has_written o rules run.es close fit in record {
      es = run.es;
      read = read;
      written = subst ((by_code o).writes run.es close)
          (transcript_once p run.es close made.0 bytes (written_alike p o faithful run.es fit close made.0 made.1) run.written) made.1;
    }

journal_back : (p : PlainProg) (o : Object) → IsFaithfulTo p o → RunsByRules o → (journal : List ℕ) (rose : Type 0) (status : Status) (bytes : List ℕ) →
    JournalDue (by_rules p) journal rose status bytes → JournalDue (by_code o) journal rose status bytes
journal_back p o faithful rules journal rose Done bytes due = (due.0, run_back p o faithful rules _ _ _ bytes due.1)
journal_back p o faithful rules journal rose Usage bytes due = due
journal_back p o faithful rules journal rose Refused bytes due = due
journal_back p o faithful rules journal rose BadObject bytes due = due
journal_back p o faithful rules journal rose BadJournal bytes due =
    record { line = due.line; code = due.code; run = run_back p o faithful rules _ _ _ bytes due.run }
journal_back p o faithful rules journal rose ReadFault bytes due =
    (due.0, record { count = due.1.count; within = due.1.within; run = run_back p o faithful rules _ _ _ bytes due.1.run })
journal_back p o faithful rules journal rose WriteFault bytes due = due
journal_back p o faithful rules journal rose NoMemory bytes due = due
journal_back p o faithful rules journal rose TooLong bytes due = (due.0, run_back p o faithful rules _ _ _ bytes due.1)
journal_back p o faithful rules journal rose BadName bytes due = due

module _ (run : ValidObjectsRun) (source file journal : List ℕ) (p : PlainProg) (o : Object) (is_source : IsSource source p) (code : IsCodeOf file o) (faithful : IsFaithfulTo p o) where
  to_run : (status : Status) (bytes : List ℕ) → status ≢ NoMemory → ExecDue file journal ⊥ ⊥ status bytes → RunDue source journal ⊥ ⊥ status bytes
  to_run status bytes known (inl due) =
      absurd (held_or_refused AnObject file (IsRefused file) (IsCodeOf file) by_code journal o status bytes (object_loaded run file) code known due)
  to_run status bytes known (inr (q, also, due)) =
      inr (p, is_source, journals_alike p o faithful journal ⊥ status bytes (subst (λ r. JournalDue (by_code r) journal ⊥ status bytes) (one_code file q o also code) due))

  to_exec : (status : Status) (bytes : List ℕ) → status ≢ NoMemory → RunDue source journal ⊥ ⊥ status bytes → ExecDue file journal ⊥ ⊥ status bytes
  to_exec status bytes known (inl due) =
      absurd (held_or_refused ASource source (IsUnaccepted source) (IsSource source) by_rules journal p status bytes (source_loaded source) is_source known due)
  to_exec status bytes known (inr (q, also, due)) =
      inr (
        o,
        code,
        journal_back p o faithful (run o code.valid code.is.lawful) journal ⊥ status bytes
            (subst (λ r. JournalDue (by_rules r) journal ⊥ status bytes) (one_meaning source q p also is_source) due),
      )

-- a file that holds what was compiled has that object
has_code : (source file : List ℕ) (made : IsCompiled source file) → IsBytes file → length file ≤ OBJECT_LIMIT → IsCodeOf file made.o
has_code source file made small short = record {
  is = record { within = short; in_bytes = small; lawful = made.is.faithful.lawful; spelled = made.text };
  valid = made.is.faithful.valid;
}

pub compiled_alike : ValidObjectsRun → CompiledRunsAlike
compiled_alike run source object journal files compiled small short status bytes =
    let made : IsCompiled (files source) (files object) = compiled.due in
    let code = has_code (files source) (files object) made small short in (
      λ out. record {
        memory = out.memory;
        due = to_run run (files source) (files object) (files journal) made.is.p made.o made.is.is_source code made.is.faithful status bytes out.memory out.due;
      },
      λ out. record {
        memory = out.memory;
        due = to_exec run (files source) (files object) (files journal) made.is.p made.o made.is.is_source code made.is.faithful status bytes out.memory out.due;
      },
    )
