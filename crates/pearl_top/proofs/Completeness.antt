-- A call whose files are in order ends with status 0, unless memory, reading or writing failed.
use Rattle.std.proofs.Common.{◌≡◌, ◌≢◌, ℕ, List, Option, refl, ap₂, sym, subst, ◌∙◌, inl, inr}
use Rattle.pearl_rules.specs.declared.entry.Entry.{Entry}
use Rattle.pearl_rules.specs.Runs.{source_offers, source_run}
use Rattle.pearl_rules.proofs.Offered.{source_ends}
use Rattle.pearl_saved_laws.specs.Laws.{RestoredRunsEnd}
use Rattle.pearl_meaning.specs.Programs.{offer}
use Rattle.pearl_program.specs.PlainPrograms.{PlainProg}
use Rattle.pearl_fields.specs.Codec.{IsLawful}
use Rattle.pearl_snap.specs.Snapshots.{snapshot}
use Rattle.pearl_top.specs.declared.status.Status.{Status}
use Rattle.pearl_top.specs.declared.status.Status.TheVariants.{Done, ReadFault, WriteFault, NoMemory}
use Rattle.pearl_instructions.specs.declared.object.Parts.{Parts as Object}
use Rattle.pearl_instructions.specs.Setups.{setup_of}
use Rattle.pearl_bench.specs.Texts.{source_of}
use Rattle.pearl_top.specs.BenchDue.{IsBench}
use Rattle.pearl_top.specs.CheckDue.{IsAccepted, IsUnaccepted}
use Rattle.pearl_top.specs.Commands.{Command, Run, Check, Print, Compile, Exec, Listed, Bench, Watch, Save, Resume, NoCommand}
use Rattle.pearl_top.specs.CompileDue.{IsCompiled}
use Rattle.pearl_top.specs.Complete.{AreInOrder, CanExecute, IsInOrder}
use Rattle.pearl_journal.specs.Entries.{All, entries}
use Rattle.pearl_journal.specs.Lines.{journal_lines}
use Rattle.pearl_top.specs.JournalDue.{IsBadJournal}
use Rattle.pearl_top.specs.Laws.{FilesInOrderEndWell, HasSomething, ValidObjectsRun}
use Rattle.pearl_top.specs.ObjectDue.{IsCodeOf, IsListed, IsNoObject, IsRefused}
use Rattle.pearl_top.specs.Outcome.{Due, IsOutcome}
use Rattle.pearl_top.specs.Reading.{ASource, AnObject}
use Rattle.pearl_top.specs.RunDue.{IsSource}
use Rattle.pearl_top.specs.PrintDue.{IsPrinted}
use Rattle.pearl_top.specs.Runners.{by_code, by_rules}
use Rattle.pearl_top.specs.Sources.{IsUnspelled}
use Rattle.pearl_top.specs.Transcript.{Closed, ended_of}
use Rattle.pearl_top.specs.Taken.{Ends}
use Rattle.pearl_meaning.specs.ProgramRuns.{setup_of as tables_of}
use Rattle.pearl_top.proofs.CheckLaws.{never_unaccepted}
use Rattle.pearl_top.proofs.CodeRuns.{has_written, read_fit}
use Rattle.pearl_top.proofs.FileLaws.{at_file_completes}
use Rattle.pearl_top.proofs.FromLaws.{from_completes}
use Rattle.pearl_top.proofs.JournalLaws.{not_bad}
use Rattle.pearl_top.proofs.Loaded.{not_refused}
use Rattle.pearl_top.proofs.ObjectLaws.{never_none, never_refused, one_code}
use Rattle.pearl_top.proofs.OneProgram.{one_meaning}
use Rattle.pearl_top.proofs.DueLaws.{handled-whole}
use Rattle.pearl_top.proofs.PrintLaws.{never_unspelled}
use Rattle.pearl_top.proofs.ResumeEnds.{has_resumed}
use Rattle.pearl_top.proofs.ResumeLaws.{resume_completes, resume_unread_free}
use Rattle.pearl_top.proofs.SaveLaws.{save_completes, save_unread_free}
use Rattle.pearl_top.proofs.TakenLaws.{finishes_of}
use Rattle.pearl_top.proofs.WatchEnds.{has_watched}
use Rattle.pearl_top.proofs.WatchLaws.{watch_completes, watch_unread_free}

-- a journal of which all lines are accepted is not refused
rules_not_bad : (p : PlainProg) (source journal bytes : List ℕ) → IsSource source p → AreInOrder source journal → IsBadJournal (by_rules p) journal bytes → ⊥
rules_not_bad p source journal bytes is_source order bad =
    let same : order.p ≡ p = one_meaning source order.p p order.is_source is_source in
    not_bad (by_rules p) journal bytes order.es
    (ap₂ (λ q lines. entries (tables_of q) lines) (sym same) (handled-whole journal order.within) ∙ order.read) bad

code_not_bad : (o : Object) (object journal bytes : List ℕ) → IsCodeOf object o → CanExecute object journal → IsBadJournal (by_code o) journal bytes → ⊥
code_not_bad o object journal bytes code order bad =
    let same : order.o ≡ o = one_code object order.o o order.is code in
    not_bad (by_code o) journal bytes order.es
    (ap₂ (λ q lines. entries (setup_of q) lines) (sym same) (handled-whole journal order.within) ∙ order.read) bad

due_completes : IsLawful snapshot → (command : Command) (files : List ℕ → List ℕ) (rose : List ℕ → Type 0) (status : Status) (bytes : List ℕ) → IsInOrder command files →
    Due command files rose status bytes → status ≢ NoMemory → status ≢ ReadFault → status ≡ Done
due_completes spelled NoCommand files rose status bytes order due no_memory no_read = absurd order
due_completes spelled (Run source journal) files rose status bytes order due no_memory no_read =
    from_completes ASource (files source) (IsUnaccepted (files source)) (IsSource (files source)) by_rules (files journal) (rose source) (rose journal) status bytes
    order.is_source.is.is.within (λ line. not_refused (files source) line order.p order.is_source) order.within
    (λ p line is. rules_not_bad p (files source) (files journal) line is order) due no_memory no_read
due_completes spelled (Exec object journal) files rose status bytes order due no_memory no_read =
    from_completes AnObject (files object) (IsRefused (files object)) (IsCodeOf (files object)) by_code (files journal) (rose object) (rose journal) status bytes
    order.is.is.within (λ line. never_refused (files object) line order.o order.is) order.within
    (λ o line code. code_not_bad o (files object) (files journal) line code order) due no_memory no_read
due_completes spelled (Watch object journal names) files rose status bytes order due no_memory no_read =
    watch_completes (files object) names (files journal) (rose object) (rose journal) status bytes order due no_memory no_read
due_completes spelled (Save object journal) files rose status bytes order due no_memory no_read =
    save_completes (files object) (files journal) (rose object) (rose journal) status bytes order due no_memory no_read
due_completes spelled (Resume state journal) files rose status bytes order due no_memory no_read =
    resume_completes spelled (files state) (files journal) (rose state) (rose journal) status bytes order due no_memory no_read
due_completes spelled (Check source) files rose status bytes order due no_memory no_read =
    at_file_completes ASource (files source) (IsAccepted (files source)) (IsUnaccepted (files source)) (rose source) status bytes order.is.within
    (λ line. never_unaccepted (files source) line order) due no_memory no_read
due_completes spelled (Print source) files rose status bytes order due no_memory no_read =
    at_file_completes ASource (files source) (IsPrinted (files source)) (IsUnspelled (files source)) (rose source) status bytes order.1.within
    (λ line. never_unspelled (files source) line order.0 order.1) due no_memory no_read
due_completes spelled (Compile source) files rose status bytes order due no_memory no_read =
    at_file_completes ASource (files source) (IsCompiled (files source)) (IsUnaccepted (files source)) (rose source) status bytes order.is.within
    (λ line. never_unaccepted (files source) line order) due no_memory no_read
due_completes spelled (Listed object) files rose status bytes order due no_memory no_read =
    at_file_completes AnObject (files object) (IsListed (files object)) (IsNoObject (files object)) (rose object) status bytes order.1.within
    (λ line. never_none (files object) line order.0 order.1) due no_memory no_read
due_completes spelled (Bench n) files rose status bytes order due no_memory no_read =
    at_file_completes ASource (source_of n) (IsBench n) (IsUnaccepted (source_of n)) ⊥ status bytes order.is_source.is.is.within
    (λ line. never_unaccepted (source_of n) line order.is_source.is) due no_memory no_read

pub completes : IsLawful snapshot → (command : Command) (files : List ℕ → List ℕ) (rose : List ℕ → Type 0) (old new : Option (List ℕ)) (status : Status) →
    Ends old new (Due command files rose) status → IsInOrder command files → status ≢ NoMemory → status ≢ ReadFault → status ≢ WriteFault → status ≡ Done
completes spelled command files rose old new status ends order no_memory no_read no_write =
    let done = finishes_of old new (Due command files rose) status no_write ends in
    due_completes spelled command files rose status done.bytes order done.is_due no_memory no_read

-- WHAT IS DUE THEN

-- a program writes something over the entries of a journal
has_transcript : (p : PlainProg) (es : List Entry) → (bytes : List ℕ) × (by_rules p).writes es Closed bytes
has_transcript p es =
    let end = source_ends (offer p) (tables_of p) es in (
      _,
      record {
        end = ended_of (source_run (offer p) (tables_of p) es end.0).core (source_offers (offer p) (source_run (offer p) (tables_of p) es end.0));
        ends = record { marks = end.0; no_mark = end.1; is = refl };
        text = refl;
      },
    )

has_outcome : ValidObjectsRun → RestoredRunsEnd → (command : Command) (files : List ℕ → List ℕ) → IsInOrder command files → HasSomething command files →
    (bytes : List ℕ) × IsOutcome command files Done bytes
has_outcome run ends NoCommand files order some = absurd order
has_outcome run ends (Run source journal) files order some =
    let written = has_transcript order.p order.es in (
      written.0,
      record {
        memory = λ e. cc;
        due = inr (order.p, order.is_source, (order.within, record { es = order.es; read = order.read; written = written.1 }));
      },
    )
has_outcome run ends (Exec object journal) files order some =
    let rules = run order.o order.is.valid order.is.is.lawful in
    let written = has_written order.o rules order.es Closed (read_fit order.o (journal_lines (files journal)) order.es All order.read) in (
      written.0,
      record {
        memory = λ e. cc;
        due = inr (order.o, order.is, (order.within, record { es = order.es; read = order.read; written = written.1 }));
      },
    )
has_outcome run ends (Watch object journal names) files order some =
    let can = order.can in
    let rules = run can.o can.is.valid can.is.is.lawful in
    let written = has_watched names can.o rules can.es Closed (read_fit can.o (journal_lines (files journal)) can.es All can.read) in (
      written.0,
      record {
        memory = λ e. cc;
        due = inr (inr (
          can.o,
          record { code = can.is; accepted = order.accepted },
          (can.within, record { es = can.es; read = can.read; written = written.1 }),
        ));
      },
    )
has_outcome run ends (Save object journal) files order some = (some.0, record { memory = λ e. cc; due = some.1 })
has_outcome run ends (Resume state journal) files order some =
    let written = has_resumed ends (files state) (files journal) order in (written.0, record { memory = λ e. cc; due = written.1 })
has_outcome run ends (Check source) files order some = (_, record { memory = λ e. cc; due = record { is = order; text = refl } })
has_outcome run ends (Print source) files order some = (_, record { memory = λ e. cc; due = record { tree = order.0; is = order.1; text = refl } })
has_outcome run ends (Compile source) files order some = (some.0, record { memory = λ e. cc; due = some.1 })
has_outcome run ends (Listed object) files order some = (_, record { memory = λ e. cc; due = record { o = order.0; is = order.1; text = refl } })
has_outcome run ends (Bench n) files order some =
    let written = has_transcript order.p order.es in (
      _,
      record {
        memory = λ e. cc;
        due = record {
          transcript = written.0;
          worked = record { p = order.p; is_source = order.is_source; run = record { es = order.es; read = order.read; written = written.1 } };
          text = refl;
        };
      },
    )

-- where no count rose, no fault of reading is due
unread : (command : Command) (files : List ℕ → List ℕ) (bytes : List ℕ) → Due command files (λ name. ⊥) ReadFault bytes → ⊥
unread NoCommand files bytes due = let e = due.0 in cc
unread (Run source journal) files bytes (inl due) = due.0
unread (Run source journal) files bytes (inr (p, is_source, due)) = due.0
unread (Exec object journal) files bytes (inl due) = due.0
unread (Exec object journal) files bytes (inr (o, code, due)) = due.0
unread (Watch object journal names) files bytes due = watch_unread_free (files object) names (files journal) bytes due
unread (Save object journal) files bytes due = save_unread_free (files object) (files journal) bytes due
unread (Resume state journal) files bytes due = resume_unread_free (files state) (files journal) bytes due
unread (Check source) files bytes due = due.0
unread (Print source) files bytes due = due.0
unread (Compile source) files bytes due = due.0
unread (Listed object) files bytes due = due.0
unread (Bench n) files bytes due = due.0

-- and nothing else than the command's end
only_done : IsLawful snapshot → (command : Command) (files : List ℕ → List ℕ) (status : Status) (bytes : List ℕ) → IsInOrder command files → IsOutcome command files status bytes →
    status ≡ Done
only_done spelled command files status bytes order is =
    due_completes spelled command files (λ name. ⊥) status bytes order is.due is.memory (λ e. unread command files bytes (subst (λ s. Due command files (λ name. ⊥) s bytes) e is.due))

pub ends_well : ValidObjectsRun → RestoredRunsEnd → IsLawful snapshot → FilesInOrderEndWell
ends_well run ends spelled command files order some =
    let done = has_outcome run ends command files order some in
    record { bytes = done.0; outcome = done.1; only = λ status others is. only_done spelled command files status others order is }
