-- How a run over a journal ends, from how its lines ended.
use Rattle.std.proofs.Common.{◌≡◌, ℕ, ◌+◌, ◌≤◌, List, [], ◌++◌, Option, Err, Bool, true, false, length, nat_le, take, refl, ap, ap₂, sym, ◌∙◌, subst, append_assoc}
use Rattle.pearl_io.specs.Outside.{Takes, TakesFront}
use Rattle.pearl_io.proofs.Offered.{takes_more}
use Rattle.pearl_rules.specs.declared.entry.Entry.{Entry}
use Rattle.pearl_rules.specs.Entries.{AreFitting}
use Rattle.pearl_script.specs.declared.refusal.Refusal.{Refusal}
use Rattle.pearl_script.specs.declared.refusal.Refusal.TheVariants as refusal
use Rattle.pearl_script.specs.Refusals.{refusal_line}
use Rattle.pearl_top.specs.declared.failure.Failure.{Failure}
use Rattle.pearl_top.specs.declared.failure.Failure.TheVariants as failure
use Rattle.pearl_top.specs.declared.status.Status.{Status}
use Rattle.pearl_top.specs.declared.status.Status.TheVariants as statuses
use Rattle.pearl_top.specs.Status.{status_of}
use Rattle.pearl_journal.specs.Entries.{Ending, Entries, All, Bad, entries_from}
use Rattle.pearl_journal.specs.Readings.{Reading}
use Rattle.pearl_journal.proofs.Offered.{entries-fit}
use Rattle.pearl_journal.specs.Lines.{ended_lines}
use Rattle.pearl_top.specs.declared.limits.TheConstants.{JOURNAL_LIMIT}
use Rattle.pearl_top.specs.Going.{Going, GoesInTurn, WritesItsRun}
use Rattle.pearl_top.specs.JournalDue.{handled, IsRun, JournalDue}
use Rattle.pearl_top.specs.Runners.{Runner}
use Rattle.pearl_top.specs.Transcript.{Close, Closed, Cut}
use Rattle.pearl_top.specs.Taken.{Finishes, Leaves, Stops}
use Rattle.pearl_top.specs.Replay.{CarriesOut, LinesDone, LinesBroken}
use Rattle.pearl_top.proofs.DueLaws.{handled-whole, le_of_true, lt_of_false}
use Rattle.pearl_top.proofs.TakenLaws.{append_nil, stops_in, stops_short}

-- what was read of the lines fits
read_fits : (runner : Runner) (lines : List (List ℕ)) (es : List Entry) (ending : Ending) →
    entries_from runner.setup runner.first lines ≡ record { accepted = es; ending = ending } → AreFitting runner.setup es
read_fits runner lines es ending read =
    subst (λ (found : Entries). AreFitting runner.setup found.accepted) read (entries-fit runner.setup runner.first lines)

-- WHERE WRITING FAILED

-- some bytes, and for each close what comes behind them
abbrev Continues : Runner → List Entry → List ℕ → Type 0
Continues runner es bytes = (close : Close) → (rest : List ℕ) × runner.writes es close (bytes ++ rest)

-- some bytes behind these are due with some status
abbrev IsDueBehind : Runner → List ℕ → Type 0 → List ℕ → Type 0
IsDueBehind runner journal rose bytes = (s : Status) × (rest : List ℕ) × JournalDue runner journal rose s (bytes ++ rest)

-- where all lines were accepted: the closing lines, or the line of a journal that is too long
broken_all : (runner : Runner) (journal : List ℕ) (rose : Type 0) (es : List Entry) (bytes : List ℕ) (fits : Bool) → fits ≡ nat_le (length journal) JOURNAL_LIMIT →
    entries_from runner.setup runner.first (handled journal) ≡ record { accepted = es; ending = All } → Continues runner es bytes →
    IsDueBehind runner journal rose bytes
broken_all runner journal rose es bytes true fits read follows =
    let within : length journal ≤ JOURNAL_LIMIT = le_of_true (length journal) JOURNAL_LIMIT (sym fits) in
    let whole = follows Closed in (
      statuses.Done,
      whole.0,
      (within, record { es = es; read = ap (entries_from runner.setup runner.first) (sym (handled-whole journal within)) ∙ read; written = whole.1 }),
    )
broken_all runner journal rose es bytes false fits read follows =
    let whole = follows (Cut (refusal.TooLong (JOURNAL_LIMIT + 1))) in (
      statuses.TooLong,
      whole.0,
      (lt_of_false (length journal) JOURNAL_LIMIT (sym fits), record { es = es; read = read; written = whole.1 }),
    )

broken_at : (runner : Runner) (journal : List ℕ) (rose : Type 0) (es : List Entry) (ending : Ending) (bytes : List ℕ) →
    entries_from runner.setup runner.first (handled journal) ≡ record { accepted = es; ending = ending } → Continues runner es bytes →
    IsDueBehind runner journal rose bytes
broken_at runner journal rose es All bytes read follows = broken_all runner journal rose es bytes (nat_le (length journal) JOURNAL_LIMIT) refl read follows
broken_at runner journal rose es (Bad line code) bytes read follows =
    let whole = follows (Cut (refusal.Journal line code)) in
    (statuses.BadJournal, whole.0, record { line = line; code = code; run = record { es = es; read = read; written = whole.1 } })

module _ {X : Type 0} (g : Going X) (turn : GoesInTurn g) (run : WritesItsRun g) (start : X) (ready : g.starts start) where
  -- where it has come to on its way over the entries of a journal, some status and some bytes are due
  due_behind : (journal : List ℕ) (rose : Type 0) (after : X) (es left : List Entry) (ending : Ending) (text : List ℕ) →
      entries_from (g.runner start).setup (g.runner start).first (handled journal) ≡ record { accepted = es; ending = ending } → g.writes start es left after text →
      IsDueBehind (g.runner start) journal rose (g.opening start ++ text)
  due_behind journal rose after es left ending text read writes =
      broken_at (g.runner start) journal rose es ending (g.opening start ++ text) read (λ close.
      let more = run.front start after es left text close ready (read_fits (g.runner start) (handled journal) es ending read) writes in
      (more.0, subst ((g.runner start).writes es close) (sym (append_assoc (g.opening start) text more.0)) more.1))

  -- a front of what comes first was taken
  pub leaves_unopened : (journal : List ℕ) (rose failed : Type 0) (old new : Option (List ℕ)) → failed → TakesFront old new (g.opening start) →
      Leaves old new failed (JournalDue (g.runner start) journal rose) (Err failure.WriteFault)
  leaves_unopened journal rose failed old new cause front =
      let found : Entries = entries_from (g.runner start).setup (g.runner start).first (handled journal) in
      let due = due_behind journal rose start found.accepted found.accepted found.ending [] refl (turn.nothing start found.accepted) in (
        cause,
        stops_short old new (JournalDue (g.runner start) journal rose) due.0 (g.opening start) due.1
            (subst (λ bytes. JournalDue (g.runner start) journal rose due.0 (bytes ++ due.1)) (append_nil (g.opening start)) due.2) front,
      )

  module _ (opened : X) (first : Reading) (old mid : Option (List ℕ)) (goes : (from : List Entry) → g.writes start from from opened [])
      (here : first ≡ (g.runner start).first) (taken : Takes old mid (g.opening start)) where
    -- what was read from there on was read of the run's lines
    read_there : (lines : List (List ℕ)) (found : Entries) → entries_from (g.tables opened) first lines ≡ found →
        entries_from (g.runner start).setup (g.runner start).first lines ≡ found
    read_there lines found read =
        sym (ap₂ (λ setup reading. entries_from setup reading lines) (turn.same_tables start opened [] [] [] (goes []) ∙ sym (run.by_tables start ready)) here) ∙ read

    comes : (after : X) (es left : List Entry) (text : List ℕ) → g.writes opened es left after text → g.writes start es left after text
    comes after es left text writes = turn.in_turn start opened after es es left [] text (goes es) writes

    -- THE LINES WERE CARRIED OUT

    -- the line of a refusal ends what is written
    pub leaves_cut : (lines : List (List ℕ)) (ending : Ending) (after : X) (new : Option (List ℕ)) (why : Refusal) (due : Status → List ℕ → Type 0) →
        LinesDone g first lines ending opened after mid new →
        ((bytes : List ℕ) → IsRun (g.runner start) lines ending (Cut why) bytes → due (status_of why) bytes) →
        Finishes old new (λ bytes. due (status_of why) (bytes ++ refusal_line why))
    leaves_cut lines ending after new why due done is_due =
        let read = read_there lines (record { accepted = done.es; ending = ending }) done.read in record {
          bytes = g.opening start ++ done.text;
          is_due = is_due ((g.opening start ++ done.text) ++ refusal_line why) (record {
            es = done.es;
            read = read;
            written = subst ((g.runner start).writes done.es (Cut why)) (sym (append_assoc (g.opening start) done.text (refusal_line why)))
                (run.cut start after done.es done.text why ready (read_fits (g.runner start) lines done.es ending read) (comes after done.es [] done.text done.writes)
                done.rests);
          });
          taken = takes_more old mid new (g.opening start) done.text taken done.taken;
        }

    -- what is written whole, in two parts
    closed_run : (lines : List (List ℕ)) (after : X) (last : List ℕ) (new : Option (List ℕ)) (done : LinesDone g first lines All opened after mid new) →
        g.closes after last → IsRun (g.runner start) lines All Closed ((g.opening start ++ done.text) ++ last)
    closed_run lines after last new done closes =
        let read = read_there lines (record { accepted = done.es; ending = All }) done.read in record {
          es = done.es;
          read = read;
          written = subst ((g.runner start).writes done.es Closed) (sym (append_assoc (g.opening start) done.text last))
              (run.closed start after done.es done.text last ready (read_fits (g.runner start) lines done.es All read) (comes after done.es [] done.text done.writes)
              done.rests closes);
        }

    -- what is written last was taken
    pub leaves_closed : (lines : List (List ℕ)) (after : X) (last : List ℕ) (between new : Option (List ℕ)) (due : Status → List ℕ → Type 0) →
        LinesDone g first lines All opened after mid between → g.closes after last → Takes between new last →
        ((bytes : List ℕ) → IsRun (g.runner start) lines All Closed bytes → due statuses.Done bytes) → Finishes old new (due statuses.Done)
    leaves_closed lines after last between new due done closes takes is_due = record {
      bytes = (g.opening start ++ done.text) ++ last;
      is_due = is_due ((g.opening start ++ done.text) ++ last) (closed_run lines after last between done closes);
      taken = takes_more old between new (g.opening start ++ done.text) last (takes_more old mid between (g.opening start) done.text taken done.taken) takes;
    }

    -- a front of it was taken
    pub leaves_unclosed : (lines : List (List ℕ)) (after : X) (last : List ℕ) (between new : Option (List ℕ)) (due : Status → List ℕ → Type 0) →
        LinesDone g first lines All opened after mid between → g.closes after last → TakesFront between new last →
        ((bytes : List ℕ) → IsRun (g.runner start) lines All Closed bytes → due statuses.Done bytes) → Stops old new due
    leaves_unclosed lines after last between new due done closes front is_due =
        let bytes : List ℕ = g.opening start ++ done.text in
        stops_in old between new due statuses.Done bytes last []
        (subst (λ end. due statuses.Done (bytes ++ end)) (sym (append_nil last)) (is_due (bytes ++ last) (closed_run lines after last between done closes)))
        (takes_more old mid between (g.opening start) done.text taken done.taken) front

    -- the output of a line was not taken whole
    leaves_broken : (journal : List ℕ) (rose : Type 0) (after : X) (new : Option (List ℕ)) → LinesBroken g first (handled journal) opened after mid new →
        Stops old new (JournalDue (g.runner start) journal rose)
    leaves_broken journal rose after new broken =
        let due = due_behind journal rose after broken.es broken.left broken.ending broken.text
        (read_there (handled journal) (record { accepted = broken.es; ending = broken.ending }) broken.read)
        (comes after broken.es broken.left broken.text broken.writes) in
        stops_in old mid new (JournalDue (g.runner start) journal rose) due.0 (g.opening start) broken.text due.1
        (subst (JournalDue (g.runner start) journal rose due.0) (append_assoc (g.opening start) broken.text due.1) due.2) taken broken.taken

    -- WHERE THE JOURNAL WAS NOT CARRIED OUT TO ITS END

    pub leaves_failed : (journal : List ℕ) (rose failed wider : Type 0) (after : X) (new : Option (List ℕ)) (why : Failure) → (failed → wider) →
        CarriesOut g (Err why) first journal rose failed opened after mid new → Leaves old new wider (JournalDue (g.runner start) journal rose) (Err why)
    leaves_failed journal rose failed wider after new (failure.Refused refusal.Usage) widen ends = absurd ends
    leaves_failed journal rose failed wider after new (failure.Refused (refusal.Syntax place)) widen ends = absurd ends
    leaves_failed journal rose failed wider after new (failure.Refused (refusal.Source place rule)) widen ends = absurd ends
    leaves_failed journal rose failed wider after new (failure.Refused (refusal.Object place)) widen ends = absurd ends
    leaves_failed journal rose failed wider after new (failure.Refused (refusal.Unsound routine instruction rule)) widen ends = absurd ends
    leaves_failed journal rose failed wider after new (failure.Refused (refusal.Snapshot place)) widen ends = absurd ends
    leaves_failed journal rose failed wider after new (failure.Refused (refusal.State rule)) widen ends = absurd ends
    leaves_failed journal rose failed wider after new (failure.Refused (refusal.Journal line code)) widen ends =
        leaves_cut (handled journal) (Bad line code) after new (refusal.Journal line code) (JournalDue (g.runner start) journal rose) ends
        (λ bytes run. record { line = line; code = code; run = run })
    leaves_failed journal rose failed wider after new (failure.Refused refusal.Read) widen ends =
        leaves_cut (ended_lines (take ends.1 journal)) All after new refusal.Read (JournalDue (g.runner start) journal rose) ends.3
        (λ bytes run. (ends.0, record { count = ends.1; within = ends.2; run = run }))
    leaves_failed journal rose failed wider after new (failure.Refused refusal.Memory) widen ends = absurd ends
    leaves_failed journal rose failed wider after new (failure.Refused (refusal.TooLong count)) widen ends =
        subst (λ n. Leaves old new wider (JournalDue (g.runner start) journal rose) (Err (failure.Refused (refusal.TooLong n)))) (sym ends.0)
        (leaves_cut (handled journal) All after new (refusal.TooLong (JOURNAL_LIMIT + 1)) (JournalDue (g.runner start) journal rose) ends.2
        (λ bytes run. (ends.1, run)))
    leaves_failed journal rose failed wider after new (failure.Refused (refusal.Name number)) widen ends = absurd ends
    leaves_failed journal rose failed wider after new failure.WriteFault widen ends = (widen ends.0, leaves_broken journal rose after new ends.1)
