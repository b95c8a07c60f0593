-- A command and the files held have at most one status, and with it one list of bytes where they are not free.
use Rattle.std.proofs.Common.{◌≡◌, ℕ, List, ap, sym, ◌∙◌, subst}
use Rattle.pearl_program.specs.PlainPrograms.{PlainProg}
use Rattle.pearl_bench.specs.Counts.{summary_of}
use Rattle.pearl_bench.specs.Texts.{journal_of, source_of}
use Rattle.pearl_journal.specs.Entries.{Entries, All}
use Rattle.pearl_journal.specs.Lines.{journal_lines}
use Rattle.pearl_fields.specs.Codec.{IsLawful}
use Rattle.pearl_snap.specs.Snapshots.{snapshot}
use Rattle.pearl_top.specs.declared.status.Status.{Status}
use Rattle.pearl_top.specs.declared.status.Status.TheVariants.{Done}
use Rattle.pearl_top.specs.BenchDue.{IsBench}
use Rattle.pearl_top.specs.CheckDue.{IsAccepted, IsUnaccepted}
use Rattle.pearl_top.specs.Commands.{Command, Run, Check, Print, Compile, Exec, Listed, Bench, Watch, Save, Resume, NoCommand}
use Rattle.pearl_top.specs.CompileDue.{IsCompiled}
use Rattle.pearl_top.specs.JournalDue.{IsRun}
use Rattle.pearl_top.specs.Laws.{HasOneStatus, HasOneText, IsFree, ValidObjectsRun}
use Rattle.pearl_top.specs.ObjectDue.{IsCodeOf, IsListed, IsNoObject, IsRefused}
use Rattle.pearl_top.specs.Outcome.{IsOutcome}
use Rattle.pearl_top.specs.PrintDue.{IsPrinted}
use Rattle.pearl_top.specs.Reading.{ASource, AnObject}
use Rattle.pearl_top.specs.RunDue.{IsSource}
use Rattle.pearl_top.specs.Runners.{by_code, by_rules}
use Rattle.pearl_top.specs.Sources.{IsUnspelled}
use Rattle.pearl_top.specs.Transcript.{Closed}
use Rattle.pearl_top.proofs.CheckLaws.{accepted_once, check_settled, unaccepted_once, unaccepted_within}
use Rattle.pearl_top.proofs.FileLaws.{AreOne, IsSettled, at_file_once}
use Rattle.pearl_top.proofs.FromLaws.{from_once}
use Rattle.pearl_top.proofs.Loaded.{compile_settled, not_refused, object_loaded, source_loaded}
use Rattle.pearl_top.proofs.ObjectLaws.{list_settled, listed_once}
use Rattle.pearl_top.proofs.OneProgram.{one_meaning, transcript_once}
use Rattle.pearl_top.proofs.PrintLaws.{print_settled, printed_once}
use Rattle.pearl_top.proofs.ResumeLaws.{resume_once}
use Rattle.pearl_top.proofs.SaveLaws.{save_due_once}
use Rattle.pearl_top.proofs.WatchLaws.{watch_due_once}

-- THE WORKLOAD

-- what a program writes over a journal of which all lines are accepted is one thing
run_once : (p : PlainProg) (lines : List (List ℕ)) (bytes others : List ℕ) → IsRun (by_rules p) lines All Closed bytes →
    IsRun (by_rules p) lines All Closed others → bytes ≡ others
run_once p lines bytes others one two =
    transcript_once p one.es Closed bytes others one.written
    (subst (λ es. (by_rules p).writes es Closed others) (ap (λ (e : Entries). e.accepted) (sym two.read ∙ one.read)) two.written)

bench_once : (n : ℕ) (bytes others : List ℕ) → IsBench n bytes → IsBench n others → bytes ≡ others
bench_once n bytes others one two =
    let same : one.worked.p ≡ two.worked.p = one_meaning (source_of n) one.worked.p two.worked.p one.worked.is_source two.worked.is_source in
    one.text
    ∙ ap (summary_of n) (run_once one.worked.p (journal_lines journal_of) one.transcript two.transcript one.worked.run
    (subst (λ p. IsRun (by_rules p) (journal_lines journal_of) All Closed two.transcript) (sym same) two.worked.run))
    ∙ sym two.text

bench_settled : (n : ℕ) → IsSettled ASource (source_of n) (IsBench n) (IsUnaccepted (source_of n))
bench_settled n = record {
  done_within = λ bytes bench. bench.worked.is_source.is.is.within;
  refused_within = unaccepted_within (source_of n);
  never_both = λ bytes others bench. not_refused (source_of n) others bench.worked.p bench.worked.is_source;
  refused_once = unaccepted_once (source_of n);
}

-- FOR ALL WORDS

-- one status, and one list of bytes
abbrev AreSame : Command → Status → Status → List ℕ → List ℕ → Type 0
AreSame command status other bytes others = AreOne status other bytes others (IsFree command status → ⊥)

same_of : (words : Command) (status other : Status) (bytes others : List ℕ) → (status ≡ other) × (bytes ≡ others) → AreSame words status other bytes others
same_of words status other bytes others same = (same.0, λ free. same.1)

one_of : (words : Command) (status other : Status) (bytes others : List ℕ) (done : List ℕ → Type 0) → (done bytes → done others → bytes ≡ others) →
    AreOne status other bytes others (status ≡ Done → done bytes → done others → bytes ≡ others) → AreSame words status other bytes others
one_of words status other bytes others done once same = (same.0, λ free. same.1 (λ e. once))

compiled_free : (source : List ℕ) (status : Status) → status ≡ Done → (IsFree (Compile source) status → ⊥) → ⊥
compiled_free source status e closed = closed (subst (IsFree (Compile source)) (sym e) tt)

one_outcome : ValidObjectsRun → IsLawful snapshot → (command : Command) (files : List ℕ → List ℕ) (status other : Status) (bytes others : List ℕ) →
    IsOutcome command files status bytes → IsOutcome command files other others → AreSame command status other bytes others
one_outcome run spelled NoCommand files status other bytes others is its = (is.due.0 ∙ sym its.due.0, λ free. is.due.1 ∙ sym its.due.1)
one_outcome run spelled (Run source journal) files status other bytes others is its =
    same_of (Run source journal) status other bytes others
    (from_once ASource (files source) (IsUnaccepted (files source)) (IsSource (files source)) by_rules (files journal) status other bytes others
    (source_loaded (files source)) is.memory its.memory is.due its.due)
one_outcome run spelled (Exec object journal) files status other bytes others is its =
    same_of (Exec object journal) status other bytes others
    (from_once AnObject (files object) (IsRefused (files object)) (IsCodeOf (files object)) by_code (files journal) status other bytes others
    (object_loaded run (files object)) is.memory its.memory is.due its.due)
one_outcome run spelled (Watch object journal names) files status other bytes others is its =
    same_of (Watch object journal names) status other bytes others
    (watch_due_once run (files object) names (files journal) status other bytes others is.memory its.memory is.due its.due)
one_outcome run spelled (Save object journal) files status other bytes others is its =
    same_of (Save object journal) status other bytes others
    (save_due_once (files object) (files journal) status other bytes others is.memory its.memory is.due its.due)
one_outcome run spelled (Resume state journal) files status other bytes others is its =
    same_of (Resume state journal) status other bytes others
    (resume_once spelled (files state) (files journal) status other bytes others is.memory its.memory is.due its.due)
one_outcome run spelled (Check source) files status other bytes others is its =
    one_of (Check source) status other bytes others (IsAccepted (files source)) (accepted_once (files source) bytes others)
    (at_file_once ASource (files source) (IsAccepted (files source)) (IsUnaccepted (files source)) status other bytes others (check_settled (files source))
    is.memory its.memory is.due its.due)
one_outcome run spelled (Print source) files status other bytes others is its =
    one_of (Print source) status other bytes others (IsPrinted (files source)) (printed_once (files source) bytes others)
    (at_file_once ASource (files source) (IsPrinted (files source)) (IsUnspelled (files source)) status other bytes others (print_settled (files source))
    is.memory its.memory is.due its.due)
one_outcome run spelled (Compile source) files status other bytes others is its =
    let same = at_file_once ASource (files source) (IsCompiled (files source)) (IsUnaccepted (files source)) status other bytes others (compile_settled (files source))
    is.memory its.memory is.due its.due in
    (same.0, λ closed. same.1 (λ e made also. absurd (compiled_free source status e closed)))
one_outcome run spelled (Listed object) files status other bytes others is its =
    one_of (Listed object) status other bytes others (IsListed (files object)) (listed_once (files object) bytes others)
    (at_file_once AnObject (files object) (IsListed (files object)) (IsNoObject (files object)) status other bytes others (list_settled (files object))
    is.memory its.memory is.due its.due)
one_outcome run spelled (Bench n) files status other bytes others is its =
    one_of (Bench n) status other bytes others (IsBench n) (bench_once n bytes others)
    (at_file_once ASource (source_of n) (IsBench n) (IsUnaccepted (source_of n)) status other bytes others (bench_settled n)
    is.memory its.memory is.due its.due)

pub one_status : ValidObjectsRun → IsLawful snapshot → HasOneStatus
one_status run spelled command files status other bytes others is its = (one_outcome run spelled command files status other bytes others is its).0

pub one_text : ValidObjectsRun → IsLawful snapshot → HasOneText
one_text run spelled command files status bytes others free is its = (one_outcome run spelled command files status status bytes others is its).1 free
