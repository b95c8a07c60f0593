-- What is written over two journals, one behind the other, is what is written over one and then over the other.
use Rattle.std.proofs.Common.{◌≡◌, ◌≢◌, ◌+◌, ◌≤◌, ℕ, List, [], ◌++◌, None, length, inl, inr, refl, ap, sym, ◌∙◌}
use Rattle.std.proofs.Common.{subst, length-append, zero-add, arith}
use Rattle.pearl_rules.specs.declared.entry.Entry.{Entry}
use Rattle.pearl_rules.specs.declared.setup.Setup.{Setup}
use Rattle.pearl_rules.specs.Entries.{AreFitting, last_moment_of_all, time_in}
use Rattle.pearl_rules.specs.Runs.{Machine, machine_offers, unsettled}
use Rattle.pearl_run_laws.specs.Laws.{MomentsCome}
use Rattle.pearl_fields.specs.Codec.{IsBytes, IsLawful}
use Rattle.pearl_stack.specs.Frames.{Frame}
use Rattle.pearl_instructions.specs.declared.object.Parts.{Parts as Object}
use Rattle.pearl_instructions.specs.Engines.{engine, machine_run}
use Rattle.pearl_instructions.specs.Lawful.{IsObject}
use Rattle.pearl_instructions.specs.Setups.{setup_of}
use Rattle.pearl_instructions.specs.Valid.{IsValid}
use Rattle.pearl_journal.specs.Entries.{All, Bad, Entries, entries, entries_from}
use Rattle.pearl_journal.specs.Lines.{journal_lines}
use Rattle.pearl_journal.specs.Pieces.{begin_later, reading_at}
use Rattle.pearl_journal_laws.specs.Later.{EndsEachLine, HasNoClock, renumbered, with_front}
use Rattle.pearl_machine.specs.Resumed.{saved_of}
use Rattle.pearl_saved.specs.declared.saved.Saved.{Saved}
use Rattle.pearl_script.specs.declared.refusal.Refusal.TheVariants as refusal
use Rattle.pearl_script.specs.Lines.{lines_of}
use Rattle.pearl_script.specs.Refusals.{refusal_line}
use Rattle.pearl_snap.specs.Snapshots.{snapshot}
use Rattle.pearl_top.specs.declared.limits.TheConstants.{JOURNAL_LIMIT, SNAPSHOT_LIMIT}
use Rattle.pearl_top.specs.declared.status.Status.{Status}
use Rattle.pearl_top.specs.declared.status.Status.TheVariants.{Done, Usage, Refused, BadObject, BadJournal}
use Rattle.pearl_top.specs.declared.status.Status.TheVariants.{ReadFault, WriteFault, NoMemory, TooLong, BadName}
use Rattle.pearl_top.specs.JournalDue.{IsBadJournal, IsRun, JournalDue}
use Rattle.pearl_top.specs.ObjectDue.{IsCodeOf}
use Rattle.pearl_top.specs.Outcome.{IsOutcome}
use Rattle.pearl_top.specs.Commands.{Exec, Resume}
use Rattle.pearl_top.specs.Reading.{ASnapshot}
use Rattle.pearl_top.specs.ResumeDue.{IsNotRestored, IsStateOf, ResumeDue}
use Rattle.pearl_top.specs.Runners.{CodeEnds, by_code, by_state}
use Rattle.pearl_top.specs.SaveDue.{IsSaved, SaveDue}
use Rattle.pearl_top.specs.SavedRuns.{IsTranscriptOf, IsRefusedLater, EndsBehind, GoesOn, SavedRunsGoOn}
use Rattle.pearl_top.specs.Transcript.{Closed, Cut, Ended, closing, ended_of}
use Rattle.pearl_top.proofs.CodeRuns.{read_fit}
use Rattle.pearl_top.proofs.DueLaws.{handled-whole}
use Rattle.pearl_top.proofs.FromLaws.{held_or_refused}
use Rattle.pearl_top.proofs.ResumeLaws.{one_state, state_loaded}
use Rattle.pearl_top.proofs.SavedRuns.{ComesAgain, whole_text}

-- WHAT IT STANDS ON

-- the lines of two journals
abbrev pub JournalsJoin : Type 0
JournalsJoin = (journal next : List ℕ) → EndsEachLine journal →
    journal_lines (journal ++ next) ≡ journal_lines journal ++ journal_lines next

-- and their entries
abbrev pub JournalsGoOn : Type 0
JournalsGoOn = (setup : Setup) (lines more : List (List ℕ)) (found : List Entry) →
    entries setup lines ≡ record { accepted = found; ending = All } → HasNoClock more →
    entries setup (lines ++ more)
    ≡ with_front found (renumbered (length lines) (entries_from setup (reading_at begin_later (time_in found)) more))

-- what goes on from a state of a run comes to this state again
abbrev pub StatesComeAgain : Type 0
StatesComeAgain = (o : Object) → IsValid o → IsObject o → (es : List Entry) → AreFitting (setup_of o) es → (n : ℕ) →
    (machine_run o es n).core.moment ≤ last_moment_of_all → unsettled (machine_run o es n) ≡ None →
    (more : List Entry) →
    ComesAgain o (machine_run o es n) more

-- what the four laws below say
pub record Stands : Type 0 where
  pub moments : MomentsCome (List Frame)
  pub join : JournalsJoin
  pub go_on : JournalsGoOn
  pub again : StatesComeAgain

-- ONE SAVED RUN

-- a valid object's file, the entries of a first journal, and the bytes of the state at the end of the run over them
pub record HasSaved (file first bytes : List ℕ) : Type 0 where
  pub o : Object
  pub code : IsCodeOf file o
  pub es : List Entry
  pub read : entries (setup_of o) (journal_lines first) ≡ record { accepted = es; ending = All }
  pub kept : IsSaved o es bytes

module _ (stands : Stands) (file first second bytes : List ℕ) (has : HasSaved file first bytes) where
  abbrev o : Object
  o = has.o

  abbrev setup : Setup
  setup = setup_of has.o

  -- the machine that is saved, and its state
  abbrev machine : Machine (List Frame)
  machine = machine_run has.o has.es has.kept.steps

  abbrev pub state : Saved
  state = saved_of machine

  -- the lines up to there, how the run ends there, and what closes it
  abbrev pub front : List ℕ
  front = lines_of setup machine.core.told

  abbrev end : Ended
  end = ended_of machine.core (machine_offers machine)

  abbrev pub last : List ℕ
  last = closing setup end Closed

  ends : CodeEnds o has.es end
  ends = record { steps = has.kept.steps; settled = has.kept.settled; no_mark = has.kept.no_mark; is = refl }

  pub first_run : IsRun (by_code o) (journal_lines first) All Closed (front ++ last)
  first_run = record { es = has.es; read = has.read; written = record { end = end; ends = ends; text = refl } }

  pub parts : IsTranscriptOf file first front last
  parts = record {
    o = o;
    code = has.code;
    es = has.es;
    read = has.read;
    end = end;
    ends = ends;
    told = refl;
    closes = refl;
  }

  -- the moment of the saved state is the time in the entries
  moment_is : state.core.moment ≡ time_in has.es
  moment_is =
      stands.moments (engine o) (machine_run o [] 0) has.es has.kept.steps
      (record { settled = has.kept.settled; no_mark = has.kept.no_mark })
      ∙ zero-add (time_in has.es)

  comes_again : (more : List Entry) → ComesAgain o machine more
  comes_again more =
      stands.again o has.code.valid has.code.is.lawful has.es (read_fit o (journal_lines first) has.es All has.read)
      has.kept.steps (has.kept.state 3).moment has.kept.settled more

  -- how many lines the first journal has, and the entries of both
  abbrev pub before : ℕ
  before = length (journal_lines first)

  module _ (ended : EndsEachLine first) (clocks : HasNoClock (journal_lines second)) where
    all_read : (later : Entries) → entries_from setup (by_state o state).first (journal_lines second) ≡ later →
        entries setup (journal_lines (first ++ second)) ≡ with_front has.es (renumbered before later)
    all_read later is =
        ap (entries setup) (stands.join first second ended)
        ∙ stands.go_on setup (journal_lines first) (journal_lines second) has.es has.read clocks
        ∙ ap (λ moment. behind (entries_from setup (reading_at begin_later moment) (journal_lines second)))
        (sym moment_is)
        ∙ ap behind is
      where
        behind : Entries → Entries
        behind found = with_front has.es (renumbered before found)

    -- the run over both, where all lines of the second one are accepted, and where one is refused
    pub done_whole : (written : List ℕ) → IsRun (by_state o state) (journal_lines second) All Closed written →
        IsRun (by_code o) (journal_lines (first ++ second)) All Closed (front ++ written)
    done_whole written run = record {
      es = has.es ++ run.es;
      read = all_read _ run.read;
      written = subst (λ x. (by_code o).writes (has.es ++ run.es) Closed (front ++ x)) (sym run.written.text)
          (whole_text o has.es has.kept.steps has.kept.settled has.kept.no_mark run.es run.written.end
          (comes_again run.es) run.written.ends Closed);
    }

    pub bad_whole : (line code : ℕ) (written : List ℕ) →
        (run : IsRun (by_state o state) (journal_lines second) (Bad line code)
        (Cut (refusal.Journal line code)) written) →
        IsRun (by_code o) (journal_lines (first ++ second)) (Bad (line + before) code)
        (Cut (refusal.Journal (line + before) code))
        (front ++ (lines_of setup run.written.end.told ++ refusal_line (refusal.Journal (line + before) code)))
    bad_whole line code written run = record {
      es = has.es ++ run.es;
      read = all_read _ run.read;
      written = whole_text o has.es has.kept.steps has.kept.settled has.kept.no_mark run.es run.written.end
          (comes_again run.es) run.written.ends (Cut (refusal.Journal (line + before) code));
    }

-- FILES

done_known : Done ≢ NoMemory
done_known e = cc

module _ (stands : Stands) (object file first second whole : List ℕ) (files : List ℕ → List ℕ) where
  module _ (has : HasSaved (files object) (files first) (files file)) (ended : EndsEachLine (files first))
      (clocks : HasNoClock (journal_lines (files second))) (joined : files whole ≡ files first ++ files second)
      (within : length (files whole) ≤ JOURNAL_LIMIT)
    where
      abbrev saved_state : Saved
      saved_state = state stands (files object) (files first) (files second) (files file) has

      abbrev head : List ℕ
      head = front stands (files object) (files first) (files second) (files file) has

      abbrev count : ℕ
      count = length (journal_lines (files first))

      second_within : length (files second) ≤ JOURNAL_LIMIT
      second_within =
          let both : length (files whole) ≡ length (files first) + length (files second) =
          ap length joined ∙ length-append (files first) (files second) in
          omega (arith, both, within)

      -- the run over the whole journal, by that over the second one
      whole_done : (bytes : List ℕ) →
          IsRun (by_state has.o saved_state) (journal_lines (files second)) All Closed bytes →
          IsRun (by_code has.o) (journal_lines (files whole)) All Closed (head ++ bytes)
      whole_done bytes run =
          subst (λ journal. IsRun (by_code has.o) (journal_lines journal) All Closed (head ++ bytes)) (sym joined)
          (done_whole stands (files object) (files first) (files second) (files file) has ended clocks bytes run)

      whole_bad : (bytes : List ℕ) → IsBadJournal (by_state has.o saved_state) (files second) bytes →
          (others : List ℕ) × IsRefusedLater count bytes others
          × IsBadJournal (by_code has.o) (files whole) (head ++ others)
      whole_bad bytes bad =
          let here = refusal.Journal bad.line bad.code in
          let there = refusal.Journal (bad.line + count) bad.code in
          let run : IsRun (by_state has.o saved_state) (journal_lines (files second)) (Bad bad.line bad.code)
          (Cut here) bytes =
          subst (λ lines. IsRun (by_state has.o saved_state) lines (Bad bad.line bad.code) (Cut here) bytes)
          (handled-whole (files second) second_within) bad.run in
          let text : List ℕ = lines_of (setup_of has.o) run.written.end.told in
          let others : List ℕ = text ++ refusal_line there in (
            others,
            record { text = text; line = bad.line; code = bad.code; is = run.written.text; later = refl },
            record {
              line = bad.line + count;
              code = bad.code;
              run = subst (λ lines. IsRun (by_code has.o) lines (Bad (bad.line + count) bad.code) (Cut there)
                  (head ++ others))
                  (sym (handled-whole (files whole) within ∙ ap journal_lines joined))
                  (bad_whole stands (files object) (files first) (files second)
                  (files file) has ended clocks bad.line bad.code bytes run);
            },
          )

      -- an outcome of `exec` over the whole journal, by what is due of the run that goes on
      whole_outcome : (status : Status) (bytes : List ℕ) → status ≢ NoMemory →
          JournalDue (by_code has.o) (files whole) ⊥ status bytes → IsOutcome (Exec object whole) files status bytes
      whole_outcome status bytes known due = record { memory = known; due = inr (has.o, has.code, due) }

      behind : (status : Status) (bytes : List ℕ) → status ≢ NoMemory →
          JournalDue (by_state has.o saved_state) (files second) ⊥ status bytes →
          EndsBehind object whole files head count status bytes
      behind Done bytes known due = record {
        others = bytes;
        renumbered = refl;
        outcome = whole_outcome Done (head ++ bytes) known (within, whole_done bytes due.1);
      }
      behind BadJournal bytes known due =
          let bad = whole_bad bytes due in
          record { others = bad.0; renumbered = bad.1; outcome = whole_outcome BadJournal (head ++ bad.0) known bad.2 }
      behind TooLong bytes known due =
          absurd (let long = due.0 in let short = second_within in let no : ⊥ = omega (arith, long, short) in no)
      behind ReadFault bytes known due = absurd due.0
      behind Usage bytes known due = absurd due
      behind Refused bytes known due = absurd due
      behind BadObject bytes known due = absurd due
      behind WriteFault bytes known due = absurd due
      behind NoMemory bytes known due = absurd due
      behind BadName bytes known due = absurd due

      -- what `resume` writes is what goes on from the saved state
      goes_on : IsLawful snapshot → IsBytes (files file) → length (files file) ≤ SNAPSHOT_LIMIT →
          (status : Status) (bytes : List ℕ) → IsOutcome (Resume file second) files status bytes →
          EndsBehind object whole files head count status bytes
      goes_on lawful in_bytes short status bytes resumes = by_due resumes.due
        where
          is_state : IsStateOf (files file) (has.o, saved_state)
          is_state = record {
            is = record { within = short; in_bytes = in_bytes; spelled = has.kept.spelled };
            lawful = has.kept.state;
          }

          by_due : ResumeDue (files file) (files second) ⊥ ⊥ status bytes →
              EndsBehind object whole files head count status bytes
          by_due (inl due) = absurd
              (held_or_refused ASnapshot (files file) (IsNotRestored (files file)) (IsStateOf (files file))
              (λ p. by_state p.0 p.1) (files second) (has.o, saved_state) status bytes
              (state_loaded lawful (files file)) is_state resumes.memory due)
          by_due (inr (p, its, due)) =
              behind status bytes resumes.memory
              (subst (λ (q : Object × Saved). JournalDue (by_state q.0 q.1) (files second) ⊥ status bytes)
              (one_state lawful (files file) p (has.o, saved_state) its.is is_state.is) due)

  saved_goes_on : IsLawful snapshot → SaveDue (files object) (files first) ⊥ ⊥ Done (files file) →
      IsBytes (files file) →
      length (files file) ≤ SNAPSHOT_LIMIT → EndsEachLine (files first) → HasNoClock (journal_lines (files second)) →
      files whole ≡ files first ++ files second → length (files whole) ≤ JOURNAL_LIMIT →
      GoesOn object file first second whole files
  saved_goes_on lawful (inl none) in_bytes short ended clocks joined within = absurd none
  saved_goes_on lawful (inr (o, code, (first_within, run))) in_bytes short ended clocks joined within =
      let has : HasSaved (files object) (files first) (files file) =
      record { o = o; code = code; es = run.es; read = run.read; kept = run.written } in
      record {
        front = head has ended clocks joined within;
        last = last stands (files object) (files first) (files second) (files file) has;
        parts = parts stands (files object) (files first) (files second) (files file) has;
        first_ends = record {
          memory = done_known;
          due = inr (
            o,
            code,
            (
              first_within,
              first_run stands (files object) (files first) (files second)
                  (files file) has,
            ),
          );
        };
        goes_on = goes_on has ended clocks joined within lawful in_bytes short;
      }

-- a run that was saved goes on as if it had not been stopped
pub saved_runs_go_on : Stands → IsLawful snapshot → SavedRunsGoOn
saved_runs_go_on stands lawful object file first second whole files saves =
    saved_goes_on stands object file first second whole files lawful saves.due
