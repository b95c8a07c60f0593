-- What is due for a workload, from how its run ended.
use Rattle.std.proofs.Common.{◌≡◌, ℕ, List, [], ◌++◌, Some, codes, ap, sym, ◌∙◌, subst}
use Rattle.pearl_bench.specs.Texts.{journal_of, source_of}
use Rattle.pearl_io.specs.Outside.{Files, content}
use Rattle.pearl_faithful.specs.Faithful.{IsFaithfulTo}
use Rattle.pearl_instructions.specs.declared.object.Parts.{Parts as Object}
use Rattle.pearl_journal.specs.Entries.{All}
use Rattle.pearl_journal.specs.Lines.{journal_lines}
use Rattle.pearl_program.specs.PlainPrograms.{PlainProg}
use Rattle.pearl_top.specs.declared.failure.Failure.{Failure}
use Rattle.pearl_top.specs.declared.status.Status.TheVariants.{Done}
use Rattle.pearl_top.specs.BenchDue.{BenchDue, IsBench, IsWorked}
use Rattle.pearl_top.specs.CheckDue.{IsUnaccepted}
use Rattle.pearl_top.specs.Failures.{IsDue}
use Rattle.pearl_top.specs.JournalDue.{IsRun, JournalDue}
use Rattle.pearl_top.specs.Reading.{ASource, MayHave}
use Rattle.pearl_top.specs.RunDue.{IsSource, SourceDue}
use Rattle.pearl_top.specs.Runners.{by_code, by_rules}
use Rattle.pearl_top.specs.Taken.{Finishes}
use Rattle.pearl_top.specs.Transcript.{Closed}
use Rattle.pearl_top.proofs.FaithfulRuns.{journals_alike}
use Rattle.pearl_top.proofs.FileLaws.{at_file_as}
use Rattle.pearl_top.proofs.TakenLaws.{is_due_as}

-- its source is refused
pub bench_refused : (n : ℕ) (read : List ℕ) (why : Failure) → read ≡ source_of n → IsDue (SourceDue read ⊥) why → IsDue (BenchDue n) why
bench_refused n read why same is =
    is_due_as (SourceDue (source_of n) ⊥) (BenchDue n) why
    (λ s bytes. at_file_as ASource (source_of n) (λ b. ⊥) (IsUnaccepted (source_of n)) (IsBench n) (IsUnaccepted (source_of n)) ⊥ ⊥ s bytes
    (λ b h. absurd h) (λ b h. h) (λ h. h))
    (subst (λ file. IsDue (SourceDue file ⊥) why) same is)

some_same : (xs ys : List ℕ) → Some xs ≡ Some ys → xs ≡ ys
some_same xs ys e = cc

-- its run was carried out
pub was_worked : (p : PlainProg) (o : Object) (source file old new : List ℕ) (files : Files) (rose : Type 0) → IsSource source p → IsFaithfulTo p o →
    MayHave (Some files) (codes "journal") file → content files (codes "journal") ≡ journal_of → old ≡ [] →
    Finishes (Some old) (Some new) (JournalDue (by_code o) file rose Done) → IsWorked source new
was_worked p o source file old new files rose is_source faithful has holds none done =
    let due : JournalDue (by_rules p) file rose Done done.bytes = journals_alike p o faithful file rose Done done.bytes done.is_due in
    let all : new ≡ done.bytes = some_same new (old ++ done.bytes) done.taken ∙ ap (λ x. x ++ done.bytes) none in record {
      p = p;
      is_source = is_source;
      run = subst (IsRun (by_rules p) (journal_lines journal_of) All Closed) (sym all)
          (subst (λ journal. IsRun (by_rules p) (journal_lines journal) All Closed done.bytes) (has ∙ holds) due.1);
    }
