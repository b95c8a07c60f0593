-- What is due at and after a journal: it is determined, and comes to its end where no line is refused.
use Rattle.std.proofs.Common.{◌≡◌, ◌≢◌, ◌+◌, ◌≤◌, ℕ, List, Bool, true, false, nat_le, length, refl, ap, sym, ◌∙◌, subst, arith}
use Rattle.pearl_rules.specs.declared.entry.Entry.{Entry}
use Rattle.pearl_script.specs.declared.refusal.Refusal.TheVariants as refusal
use Rattle.pearl_journal.specs.Entries.{Ending, Entries, All, Bad, entries_from}
use Rattle.pearl_top.specs.declared.limits.TheConstants.{JOURNAL_LIMIT}
use Rattle.pearl_top.specs.declared.status.Status.{Status}
use Rattle.pearl_top.specs.declared.status.Status.TheVariants.{Done, Usage, Refused, BadObject, BadJournal, ReadFault, WriteFault, NoMemory, TooLong, BadName}
use Rattle.pearl_top.specs.JournalDue.{IsBadJournal, IsRun, JournalDue, handled}
use Rattle.pearl_top.specs.Runners.{Runner}
use Rattle.pearl_top.specs.Transcript.{Close, Closed, Cut}
use Rattle.pearl_top.proofs.DueLaws.{handled-whole, le_true, le_false}

-- where the count of faults rose from earlier on
pub journal_rises : (runner : Runner) (journal : List ℕ) (rose risen : Type 0) (status : Status) (bytes : List ℕ) → (rose → risen) → JournalDue runner journal rose status bytes →
    JournalDue runner journal risen status bytes
journal_rises runner journal rose risen Done bytes on due = due
journal_rises runner journal rose risen Usage bytes on due = due
journal_rises runner journal rose risen Refused bytes on due = due
journal_rises runner journal rose risen BadObject bytes on due = due
journal_rises runner journal rose risen BadJournal bytes on due = due
journal_rises runner journal rose risen ReadFault bytes on due = (on due.0, due.1)
journal_rises runner journal rose risen WriteFault bytes on due = due
journal_rises runner journal rose risen NoMemory bytes on due = due
journal_rises runner journal rose risen TooLong bytes on due = due
journal_rises runner journal rose risen BadName bytes on due = due

-- what comes without a fault of reading comes where no count rose
pub journal_unrisen : (runner : Runner) (journal : List ℕ) (rose : Type 0) (status : Status) (bytes : List ℕ) → status ≢ ReadFault → JournalDue runner journal rose status bytes →
    JournalDue runner journal ⊥ status bytes
journal_unrisen runner journal rose Done bytes free due = due
journal_unrisen runner journal rose Usage bytes free due = due
journal_unrisen runner journal rose Refused bytes free due = due
journal_unrisen runner journal rose BadObject bytes free due = due
journal_unrisen runner journal rose BadJournal bytes free due = due
journal_unrisen runner journal rose ReadFault bytes free due = absurd (free refl)
journal_unrisen runner journal rose WriteFault bytes free due = due
journal_unrisen runner journal rose NoMemory bytes free due = due
journal_unrisen runner journal rose TooLong bytes free due = due
journal_unrisen runner journal rose BadName bytes free due = due

-- a journal that is within the limit, and of which no line is refused, comes to its end
pub journal_completes : (runner : Runner) (journal : List ℕ) (rose : Type 0) (status : Status) (bytes : List ℕ) → length journal ≤ JOURNAL_LIMIT →
    ((bytes : List ℕ) → IsBadJournal runner journal bytes → ⊥) → JournalDue runner journal rose status bytes → status ≢ ReadFault → status ≡ Done
journal_completes runner journal rose Done bytes within never due no_read = refl
journal_completes runner journal rose Usage bytes within never due no_read = absurd due
journal_completes runner journal rose Refused bytes within never due no_read = absurd due
journal_completes runner journal rose BadObject bytes within never due no_read = absurd due
journal_completes runner journal rose BadJournal bytes within never due no_read = absurd (never bytes due)
journal_completes runner journal rose ReadFault bytes within never due no_read = absurd (no_read refl)
journal_completes runner journal rose WriteFault bytes within never due no_read = absurd due
journal_completes runner journal rose NoMemory bytes within never due no_read = absurd due
journal_completes runner journal rose TooLong bytes within never due no_read = absurd (omega (arith, within, due.0))
journal_completes runner journal rose BadName bytes within never due no_read = absurd due

-- all lines of these are accepted, and one is refused
all_and_bad : (line code : ℕ) → All ≡ Bad line code → ⊥
all_and_bad line code e = cc

-- a journal of which all lines are accepted is not refused
pub not_bad : (runner : Runner) (journal bytes : List ℕ) (es : List Entry) → entries_from runner.setup runner.first (handled journal) ≡ record { accepted = es; ending = All } →
    IsBadJournal runner journal bytes → ⊥
not_bad runner journal bytes es read bad =
    all_and_bad bad.line bad.code (ap (λ (e : Entries). e.ending) (sym read ∙ bad.run.read))

-- ONE OUTCOME

-- it writes one thing over the entries that some lines have by its tables
abbrev pub WritesOnce : Runner → Type 0
WritesOnce runner = (lines : List (List ℕ)) (es : List Entry) (ending : Ending) →
    entries_from runner.setup runner.first lines ≡ record { accepted = es; ending = ending } → (close : Close) (bytes others : List ℕ) →
    runner.writes es close bytes → runner.writes es close others → bytes ≡ others

-- the status, by how the lines that are handled end, and whether the journal is within its limit
abbrev status_of : Ending → Bool → Status
status_of All true = Done
status_of All false = TooLong
status_of (Bad line code) fits = BadJournal

-- and what closes the transcript
abbrev close_of : Ending → Bool → Close
close_of All true = Closed
close_of All false = Cut (refusal.TooLong (JOURNAL_LIMIT + 1))
close_of (Bad line code) fits = Cut (refusal.Journal line code)

abbrev fits_in : List ℕ → Bool
fits_in journal = nat_le (length journal) JOURNAL_LIMIT

-- what comes where nothing outside fails
record Comes (runner : Runner) (journal : List ℕ) (status : Status) (bytes : List ℕ) : Type 0 where
  ending : Ending
  is : status ≡ status_of ending (fits_in journal)
  run : IsRun runner (handled journal) ending (close_of ending (fits_in journal)) bytes

comes_all : (runner : Runner) (journal bytes : List ℕ) (fits : Bool) → fits_in journal ≡ fits → IsRun runner (handled journal) All (close_of All fits) bytes →
    Comes runner journal (status_of All fits) bytes
comes_all runner journal bytes fits e run = record {
  ending = All;
  is = ap (status_of All) (sym e);
  run = subst (λ b. IsRun runner (handled journal) All (close_of All b) bytes) (sym e) run;
}

comes : (runner : Runner) (journal : List ℕ) (status : Status) (bytes : List ℕ) → JournalDue runner journal ⊥ status bytes → Comes runner journal status bytes
comes runner journal Done bytes due =
    comes_all runner journal bytes true (le_true (length journal) JOURNAL_LIMIT due.0)
    (subst (λ lines. IsRun runner lines All Closed bytes) (sym (handled-whole journal due.0)) due.1)
comes runner journal Usage bytes due = absurd due
comes runner journal Refused bytes due = absurd due
comes runner journal BadObject bytes due = absurd due
comes runner journal BadJournal bytes due = record { ending = Bad due.line due.code; is = refl; run = due.run }
comes runner journal ReadFault bytes due = absurd due.0
comes runner journal WriteFault bytes due = absurd due
comes runner journal NoMemory bytes due = absurd due
comes runner journal TooLong bytes due = comes_all runner journal bytes false (le_false (length journal) JOURNAL_LIMIT due.0) due.1
comes runner journal BadName bytes due = absurd due

comes_once : (runner : Runner) (journal : List ℕ) (status other : Status) (bytes others : List ℕ) → WritesOnce runner → Comes runner journal status bytes →
    Comes runner journal other others → (status ≡ other) × (bytes ≡ others)
comes_once runner journal status other bytes others once one two =
    let same : ◌≡◌ {A = Entries} (record { accepted = one.run.es; ending = one.ending }) (record { accepted = two.run.es; ending = two.ending }) =
    sym one.run.read ∙ two.run.read in
    let es : one.run.es ≡ two.run.es = ap (λ (e : Entries). e.accepted) same in
    let ending : one.ending ≡ two.ending = ap (λ (e : Entries). e.ending) same in
    let close : close_of one.ending (fits_in journal) ≡ close_of two.ending (fits_in journal) = ap (λ e. close_of e (fits_in journal)) ending in
    let written : runner.writes one.run.es (close_of one.ending (fits_in journal)) others =
    subst (λ entries. runner.writes entries (close_of one.ending (fits_in journal)) others) (sym es)
    (subst (λ c. runner.writes two.run.es c others) (sym close) two.run.written) in (
      one.is ∙ ap (λ e. status_of e (fits_in journal)) ending ∙ sym two.is,
      once (handled journal) one.run.es one.ending one.run.read (close_of one.ending (fits_in journal)) bytes others one.run.written written,
    )

-- what is due over one journal is one thing
pub journal_once : (runner : Runner) (journal : List ℕ) (status other : Status) (bytes others : List ℕ) → WritesOnce runner →
    JournalDue runner journal ⊥ status bytes → JournalDue runner journal ⊥ other others → (status ≡ other) × (bytes ≡ others)
journal_once runner journal status other bytes others once due also =
    comes_once runner journal status other bytes others once (comes runner journal status bytes due) (comes runner journal other others also)
