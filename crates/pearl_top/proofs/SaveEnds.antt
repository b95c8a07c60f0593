-- From what a machine did over a journal of which nothing was written, and from its snapshot, to what is due for a saved run.
use Rattle.std.proofs.Common.{◌≡◌, ◌+◌, ◌⊎◌, ◌++◌, ℕ, List, [], None, Result, Ok, Err, inl, inr, refl, ap, ap₂, sym, ◌∙◌, subst, arith}
use Rattle.std.specs.Prelude.{IfErr, OnErr, OnOk}
use Rattle.pearl_io.specs.Outside.{WriteFailed, Files}
use Rattle.pearl_rules.specs.declared.entry.Entry.{Entry}
use Rattle.pearl_rules.specs.Core.{Report}
use Rattle.pearl_rules.specs.Pick.{pick}
use Rattle.pearl_rules.specs.Runs.{Machine, machine_next, machine_offers, unsettled}
use Rattle.pearl_instructions.specs.declared.object.Parts.{Parts as Object}
use Rattle.pearl_instructions.specs.Setups.{setup_of}
use Rattle.pearl_stack.specs.Frames.{Frame}
use Rattle.pearl_journal.specs.Entries.{All, Bad, entries_from}
use Rattle.pearl_journal.specs.Lines.{journal_lines}
use Rattle.pearl_journal.specs.Readings.{Reading, start}
use Rattle.pearl_machine.specs.Resumed.{saved_of}
use Rattle.pearl_machine.specs.Seen.{Seen, at, retold, Goes, Handles}
use Rattle.pearl_machine.proofs.Offered.{handles_on}
use Rattle.pearl_saved.specs.declared.saved.Saved.{Saved}
use Rattle.pearl_saved.specs.Rules.{IsMachineState}
use Rattle.pearl_snap.specs.Restoring.{IsSnapshot}
use Rattle.pearl_script.specs.declared.refusal.Refusal.TheVariants as refusal
use Rattle.pearl_top.specs.declared.failure.Failure.{Failure}
use Rattle.pearl_top.specs.declared.failure.Failure.TheVariants as failure
use Rattle.pearl_top.specs.declared.limits.TheConstants.{JOURNAL_LIMIT}
use Rattle.pearl_top.specs.Failures.{IsDue}
use Rattle.pearl_top.specs.Followers.{Tells, machine_going}
use Rattle.pearl_top.specs.JournalDue.{IsRun, JournalDue}
use Rattle.pearl_top.specs.Reading.{MayHave}
use Rattle.pearl_top.specs.Ready.{IsReady, started}
use Rattle.pearl_top.specs.Replay.{CarriesOut, LinesDone}
use Rattle.pearl_top.specs.SaveDue.{IsSaved, by_save}
use Rattle.pearl_top.specs.Saving.{HasRun, IsSnapshotOf}
use Rattle.pearl_top.specs.Transcript.{Closed}
use Rattle.pearl_top.proofs.Endings.{is_done}
use Rattle.pearl_top.proofs.MachineRuns.{machine_in_turn, tells_opened}
use Rattle.pearl_top.proofs.RunEnds.{after, opening, stands, IsDone}

-- what takes all never fails
pub never_failed : WriteFailed 0 0 ⊥ → ⊥
never_failed (inl (inl less)) = absurd (omega (arith, less))
never_failed (inl (inr last)) = absurd (omega (arith, last))
never_failed (inr full) = full

-- so what it answers is no failure
pub all_taken : {E : Type 0} (r : Result (Unit {0}) E) (P : Type 0) → OnErr r (WriteFailed 0 0 ⊥) → OnOk r P → P
all_taken (Ok done) P never is = is
all_taken (Err fault) P never is = absurd (never_failed never)

-- OVER THE JOURNAL

-- it is at moment 0 there
pub opened_at : (seen opened : Seen) → IsReady seen → opened ≡ retold seen [] → opened.state.core.moment ≡ 0
opened_at seen opened ready same = ap (λ (s : Seen). s.state.core.moment) same ∙ ap (λ (s : Seen). s.state.core.moment) ready.starts

module _ (seen opened : Seen) (ready : IsReady seen) (same : opened ≡ retold seen []) (first : Reading) (here : first ≡ start) where
  -- what it does behind what opens the run, it does from the start on
  from_start : (now : Seen) (es : List Entry) (text : List ℕ) → Tells opened es [] now text → Tells seen es [] now text
  from_start now es text tells =
      let none : opened.state.core.told ≡ [] = ap (λ (s : Seen). s.state.core.told) same in
      machine_in_turn.in_turn seen opened now es es [] [] text (tells_opened seen opened (same ∙ ap (retold seen) (sym none)) none es) tells

  -- the journal is read by its object's tables
  read_there : (lines : List (List ℕ)) → entries_from (setup_of seen.object) start lines ≡ entries_from (setup_of opened.object) first lines
  read_there lines =
      sym (ap₂ (λ held reading. entries_from (setup_of held) reading lines) (ap (λ (s : Seen). s.object) same) here)

  -- where all of its lines were carried out
  has_run : (journal : List ℕ) (rose failed : Type 0) (now : Seen) → CarriesOut machine_going (Ok tt) first journal rose failed opened now None None →
      HasRun seen journal now
  has_run journal rose failed now ends =
      let done = ends.1 in
      let tells = from_start now done.es done.text done.writes in record {
        within = ends.0;
        es = done.es;
        read = read_there (journal_lines journal) ∙ done.read;
        told = tells.told;
        handles = tells.handles;
        object = tells.object;
        rests = done.rests;
      }

  -- and where they weren't
  due_alone : (journal : List ℕ) (rose failed : Type 0) (now : Seen) (why : Failure) → (failed → ⊥) →
      CarriesOut machine_going (Err why) first journal rose failed opened now None None → IsDue (JournalDue (by_save seen.object) journal rose) why
  due_alone journal rose failed now (failure.Refused refusal.Usage) never ends = absurd ends
  due_alone journal rose failed now (failure.Refused (refusal.Syntax place)) never ends = absurd ends
  due_alone journal rose failed now (failure.Refused (refusal.Source place rule)) never ends = absurd ends
  due_alone journal rose failed now (failure.Refused (refusal.Object place)) never ends = absurd ends
  due_alone journal rose failed now (failure.Refused (refusal.Unsound routine instruction rule)) never ends = absurd ends
  due_alone journal rose failed now (failure.Refused (refusal.Snapshot place)) never ends = absurd ends
  due_alone journal rose failed now (failure.Refused (refusal.State rule)) never ends = absurd ends
  due_alone journal rose failed now (failure.Refused (refusal.Journal line code)) never done =
      record { line = line; code = code; run = record { es = done.es; read = read_there _ ∙ done.read; written = refl } }
  due_alone journal rose failed now (failure.Refused refusal.Read) never ends =
      let done = ends.3 in
      (ends.0, record { count = ends.1; within = ends.2; run = record { es = done.es; read = read_there _ ∙ done.read; written = refl } })
  due_alone journal rose failed now (failure.Refused refusal.Memory) never ends = absurd ends
  due_alone journal rose failed now (failure.Refused (refusal.TooLong count)) never ends =
      let done = ends.2 in
      subst (λ n. IsDue (JournalDue (by_save seen.object) journal rose) (failure.Refused (refusal.TooLong n))) (sym ends.0)
      (ends.1, record { es = done.es; read = read_there _ ∙ done.read; written = refl })
  due_alone journal rose failed now (failure.Refused (refusal.Name number)) never ends = absurd ends
  due_alone journal rose failed now failure.WriteFault never ends = absurd (never ends.0)

  -- some file is on the shelf, and the machine has gone over it
  abbrev Carried : Type 0 → (List ℕ → Type 0) → Seen → Result (Unit {0}) Failure → Type 0 → Type 0
  Carried rose has now ended failed =
      (file : List ℕ) × has file × CarriesOut machine_going ended first file rose failed opened now None None

  pub went_over : (rose failed : Type 0) (has : List ℕ → Type 0) (now : Seen) (ended : Result (Unit {0}) Failure) → Carried rose has now ended failed →
      OnOk ended ((file : List ℕ) × has file × HasRun seen file now)
  went_over rose failed has now (Ok done) carried = (carried.0, carried.1, has_run carried.0 rose failed now carried.2)
  went_over rose failed has now (Err why) carried = tt

  pub fell_short : (rose failed : Type 0) (has : List ℕ → Type 0) (now : Seen) (ended : Result (Unit {0}) Failure) → (failed → ⊥) →
      Carried rose has now ended failed →
      IfErr ended (λ why. (file : List ℕ) × has file × IsDue (JournalDue (by_save seen.object) file rose) why)
  fell_short rose failed has now (Ok done) never carried = tt
  fell_short rose failed has now (Err why) never carried = (carried.0, carried.1, due_alone carried.0 rose failed now why never carried.2)

-- THE SNAPSHOT

-- the run stands there after some steps
is_saved : (o : Object) (es : List Entry) (seen : Seen) (told : List (ℕ × Report)) (bytes : List ℕ) → Handles (started o) es [] seen told → seen.object ≡ o →
    IsSnapshotOf seen bytes → IsSaved o es bytes
is_saved o es seen told bytes ran same shot =
    let last : Seen = shot.last in
    let object : last.object ≡ o = shot.object ∙ same in
    let there : Handles (started o) es [] last told = handles_on (started o) seen last es [] [] told same ran (shot.handles []) in
    let end : Goes (started o) (opening o) es [] last told = stands o es [] last told there in
    let m : Machine (List Frame) = at last (opening o ++ told) end.left in
    let kept : saved_of (after o es end.steps) ≡ saved_of last.state = ap saved_of end.is in
    let done : IsDone m = is_done last (opening o ++ told) end.left end.same in record {
      steps = end.steps;
      settled = ap unsettled end.is ∙ shot.settled;
      no_mark = ap machine_next end.is ∙ done (pick m.core (machine_offers m)) (λ known. refl);
      spelled = subst (λ held. IsSnapshot bytes held (saved_of (after o es end.steps))) object (subst (IsSnapshot bytes last.object) (sym kept) shot.spelled);
      state = subst (λ held. IsMachineState held (saved_of (after o es end.steps))) object (subst (IsMachineState last.object) (sym kept) shot.state);
    }

-- what was saved of where it stood then, and what that is spelled as
pub is_snapshot_of : (seen last : Seen) (o : Object) (saved : Saved) (bytes : List ℕ) → ((from : List Entry) → Handles seen from from last []) →
    unsettled last.state ≡ None → last.object ≡ seen.object → o ≡ last.object → saved ≡ saved_of last.state → IsMachineState last.object saved →
    IsSnapshot bytes o saved → IsSnapshotOf seen bytes
is_snapshot_of seen last o saved bytes handles settled object same kept state spelled = record {
  last = last;
  handles = handles;
  settled = settled;
  object = object;
  spelled = subst (IsSnapshot bytes last.object) kept (subst (λ held. IsSnapshot bytes held saved) same spelled);
  state = subst (IsMachineState last.object) kept state;
}

-- so its bytes are due at the end of the journal
pub saved_run : (old : Seen) (journal : List ℕ) (seen : Seen) (bytes : List ℕ) → IsReady old → HasRun old journal seen → IsSnapshotOf seen bytes →
    IsRun (by_save old.object) (journal_lines journal) All Closed bytes
saved_run old journal seen bytes ready run shot =
    let ran : Handles (started old.object) run.es [] seen run.told = subst (λ s. Handles s run.es [] seen run.told) ready.starts run.handles in
    record { es = run.es; read = run.read; written = is_saved old.object run.es seen run.told bytes ran run.object shot }
