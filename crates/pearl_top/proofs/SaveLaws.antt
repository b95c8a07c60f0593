-- What is due for an object of which a run is saved: it is determined, and comes to its end where no line is refused.
use Rattle.std.proofs.Common.{◌≡◌, ◌≢◌, ◌⊎◌, ℕ, List, [], ◌++◌, Option, Ok, Err, ap, ap₂, sym, ◌∙◌, subst, inl, inr}
use Rattle.pearl_io.specs.Outside.{Takes, TakesFront}
use Rattle.pearl_rules.specs.declared.entry.Entry.{Entry}
use Rattle.pearl_rules.specs.Runs.{Machine}
use Rattle.pearl_instructions.specs.declared.object.Parts.{Parts as Object}
use Rattle.pearl_instructions.specs.Engines.{engine}
use Rattle.pearl_instructions.specs.Setups.{setup_of}
use Rattle.pearl_stack.specs.Frames.{Frame}
use Rattle.pearl_journal.specs.Entries.{entries}
use Rattle.pearl_machine.specs.Resumed.{saved_of}
use Rattle.pearl_machine.specs.Seen.{Seen}
use Rattle.pearl_snap.specs.Snapshots.{snapshot_bytes}
use Rattle.pearl_top.specs.declared.failure.Failure.TheVariants as failure
use Rattle.pearl_top.specs.declared.limits.TheConstants.{OBJECT_LIMIT}
use Rattle.pearl_top.specs.declared.status.Status.{Status}
use Rattle.pearl_top.specs.declared.status.Status.TheVariants.{Done, Usage, ReadFault, NoMemory}
use Rattle.pearl_top.specs.Complete.{CanExecute}
use Rattle.pearl_top.specs.JournalDue.{IsBadJournal, JournalDue}
use Rattle.pearl_top.specs.ObjectDue.{IsCodeOf, IsRefused, ObjectDue}
use Rattle.pearl_top.specs.Reading.{AnObject, UnreadDue}
use Rattle.pearl_top.specs.Ready.{IsReady, start_of}
use Rattle.pearl_top.specs.SaveDue.{IsSaved, SaveDue, WritesSaved, by_save}
use Rattle.pearl_top.specs.Saving.{HasRun, IsSnapshotOf}
use Rattle.pearl_top.specs.Taken.{Finishes, Leaves}
use Rattle.pearl_top.specs.Transcript.{Close, Closed, Cut}
use Rattle.pearl_top.proofs.DueLaws.{handled-whole}
use Rattle.pearl_top.proofs.FromLaws.{IsLoaded, from_completes, from_held, from_once, from_read, from_refused, from_unread, from_unrisen, from_usage}
use Rattle.pearl_top.proofs.JournalLaws.{WritesOnce, not_bad}
use Rattle.pearl_top.proofs.ObjectLaws.{never_refused, one_code, refused_once, refused_within}
use Rattle.pearl_top.proofs.RunEnds.{after}
use Rattle.pearl_top.proofs.SaveEnds.{saved_run}
use Rattle.pearl_top.proofs.TakenLaws.{append_nil, stops_short}
use Rattle.pearl_top.proofs.WatchEnds.{IsOver, one_machine}

-- AT THE OBJECT, AND BEHIND IT

pub save_unread : (file journal : List ℕ) (rose also : Type 0) (status : Status) (bytes : List ℕ) → UnreadDue file OBJECT_LIMIT rose status bytes →
    SaveDue file journal rose also status bytes
save_unread file journal = from_unread AnObject file (IsRefused file) (IsCodeOf file) by_save journal

pub save_refused : (read file journal : List ℕ) (rose also : Type 0) (status : Status) (bytes : List ℕ) → read ≡ file → ObjectDue read ⊥ status bytes →
    SaveDue file journal rose also status bytes
save_refused read file journal rose also status bytes same due =
    from_refused AnObject file (IsRefused file) (IsCodeOf file) by_save journal rose also status bytes (subst (λ f. ObjectDue f ⊥ status bytes) same due)

pub save_accepted : (read file journal : List ℕ) (rose also later : Type 0) (o : Object) (status : Status) (bytes : List ℕ) → read ≡ file → (also → later) →
    IsCodeOf read o → JournalDue (by_save o) journal also status bytes → SaveDue file journal rose later status bytes
save_accepted read file journal rose also later o status bytes same on code due =
    from_held AnObject file (IsRefused file) (IsCodeOf file) by_save journal o rose also later status bytes on (subst (λ f. IsCodeOf f o) same code) due

-- the snapshot is due
save_due : (read file journal : List ℕ) (rose also : Type 0) (old seen : Seen) (bytes : List ℕ) → read ≡ file → IsCodeOf read old.object → IsReady old →
    HasRun old journal seen → IsSnapshotOf seen bytes → SaveDue file journal rose also Done bytes
save_due read file journal rose also old seen bytes same code ready run shot =
    save_accepted read file journal rose also also old.object Done bytes same (λ x. x) code (run.within, saved_run old journal seen bytes ready run shot)

-- and was taken whole, or only a front of it
pub saved_whole : (read file journal : List ℕ) (rose also failed : Type 0) (old seen : Seen) (text piece : List ℕ) (before after : Option (List ℕ)) →
    read ≡ file → IsCodeOf read old.object → IsReady old → HasRun old journal seen → IsSnapshotOf seen text → piece ≡ text → Takes before after piece →
    Leaves before after failed (SaveDue file journal rose also) (Ok tt)
saved_whole read file journal rose also failed old seen text piece before after same code ready run shot is taken = record {
  bytes = piece;
  is_due = save_due read file journal rose also old seen piece same code ready run (subst (IsSnapshotOf seen) (sym is) shot);
  taken = taken;
}

pub saved_short : (read file journal : List ℕ) (rose also failed : Type 0) (old seen : Seen) (text piece : List ℕ) (before after : Option (List ℕ)) →
    read ≡ file → IsCodeOf read old.object → IsReady old → HasRun old journal seen → IsSnapshotOf seen text → piece ≡ text → failed →
    TakesFront before after piece → Leaves before after failed (SaveDue file journal rose also) (Err failure.WriteFault)
saved_short read file journal rose also failed old seen text piece before after same code ready run shot is cause front = (
  cause,
  stops_short before after (SaveDue file journal rose also) Done piece []
      (subst (SaveDue file journal rose also Done) (sym (append_nil piece))
      (save_due read file journal rose also old seen piece same code ready run (subst (IsSnapshotOf seen) (sym is) shot))) front,
)

-- FOR ALL WORDS

pub save_unrisen : (file journal : List ℕ) (rose also : Type 0) (status : Status) (bytes : List ℕ) → status ≢ ReadFault →
    SaveDue file journal rose also status bytes → SaveDue file journal ⊥ ⊥ status bytes
save_unrisen file journal rose also status bytes free due =
    from_unrisen AnObject file (IsRefused file) (IsCodeOf file) by_save journal rose also status bytes free due

pub save_usage : (file journal : List ℕ) (a b : Type 0) (bytes : List ℕ) → SaveDue file journal a b Usage bytes → ⊥
save_usage file journal = from_usage AnObject file (IsRefused file) (IsCodeOf file) by_save journal

pub save_read : (file journal : List ℕ) (a b : Type 0) (bytes : List ℕ) → SaveDue file journal a b ReadFault bytes → a ⊎ b
save_read file journal = from_read AnObject file (IsRefused file) (IsCodeOf file) by_save journal

pub save_unread_free : (file journal bytes : List ℕ) → SaveDue file journal ⊥ ⊥ ReadFault bytes → ⊥
save_unread_free file journal bytes (inl due) = due.0
save_unread_free file journal bytes (inr (o, code, due)) = due.0

-- ONE THING

-- the run has one end, and its state one spelling
saved_once : (o : Object) (es : List Entry) (close : Close) (bytes others : List ℕ) → WritesSaved o es close bytes → WritesSaved o es close others → bytes ≡ others
saved_once o es Closed bytes others one two =
    let first : IsOver (after o es one.steps) = record { settled = one.settled; no_mark = one.no_mark } in
    let second : IsOver (after o es two.steps) = record { settled = two.settled; no_mark = two.no_mark } in
    one.spelled.same
    ∙ ap (λ (m : Machine (List Frame)). snapshot_bytes o (saved_of m)) (one_machine (engine o) (start_of o es) one.steps two.steps first second)
    ∙ sym two.spelled.same
saved_once o es (Cut refusal) bytes others one two = one ∙ sym two

save_once : (o : Object) → WritesOnce (by_save o)
save_once o lines es ending read close bytes others one two = saved_once o es close bytes others one two

save_loaded : (file : List ℕ) → IsLoaded AnObject file (IsRefused file) (IsCodeOf file) by_save
save_loaded file = record {
  within = λ o code. code.is.within;
  refused_within = refused_within file;
  never_both = λ o bytes code. never_refused file bytes o code;
  refused_once = refused_once file;
  one = one_code file;
  writes_once = λ o code. save_once o;
}

pub save_due_once : (file journal : List ℕ) (status other : Status) (bytes others : List ℕ) → status ≢ NoMemory → other ≢ NoMemory →
    SaveDue file journal ⊥ ⊥ status bytes → SaveDue file journal ⊥ ⊥ other others → (status ≡ other) × (bytes ≡ others)
save_due_once file journal status other bytes others known also due too =
    from_once AnObject file (IsRefused file) (IsCodeOf file) by_save journal status other bytes others (save_loaded file) known also due too

-- TO ITS END

save_not_bad : (o : Object) (file journal bytes : List ℕ) → IsCodeOf file o → CanExecute file journal → IsBadJournal (by_save o) journal bytes → ⊥
save_not_bad o file journal bytes code order bad =
    let same : order.o ≡ o = one_code file order.o o order.is code in
    not_bad (by_save o) journal bytes order.es
    (ap₂ (λ q lines. entries (setup_of q) lines) (sym same) (handled-whole journal order.within) ∙ order.read) bad

pub save_completes : (file journal : List ℕ) (rose also : Type 0) (status : Status) (bytes : List ℕ) → CanExecute file journal →
    SaveDue file journal rose also status bytes → status ≢ NoMemory → status ≢ ReadFault → status ≡ Done
save_completes file journal rose also status bytes order due no_memory no_read =
    from_completes AnObject file (IsRefused file) (IsCodeOf file) by_save journal rose also status bytes
    order.is.is.within (λ line. never_refused file line order.o order.is) order.within
    (λ o line code. save_not_bad o file journal line code order) due no_memory no_read
