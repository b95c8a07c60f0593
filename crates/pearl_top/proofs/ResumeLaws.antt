-- A snapshot's file: which state it has, or what is wrong with it, is determined; and how it comes to what is due.
use Rattle.std.proofs.Common.{◌≡◌, ◌≢◌, ◌-◌, ◌<◌, ◌≤◌, ◌⊎◌, ℕ, List, ◌++◌, Result, Ok, Err, length, refl, ap, ap₂, sym}
use Rattle.std.proofs.Common.{◌∙◌, subst, inl, inr, arith}
use Rattle.std.proofs.lemmas.Bool.{cases_lt}
use Rattle.pearl_fields.specs.Codec.{IsBytes, IsLawful, number_bytes, whole_read}
use Rattle.pearl_fields.proofs.Offered.{bytes_before, bytes_behind, number_in_bytes, whole_again}
use Rattle.pearl_instructions.specs.declared.object.Parts.{Parts as Object}
use Rattle.pearl_instructions.specs.Setups.{setup_of}
use Rattle.pearl_journal.specs.Entries.{entries_from}
use Rattle.pearl_journal.specs.Pieces.{Kept, begin_later, reading_at}
use Rattle.pearl_machine.specs.Resumed.{resumed}
use Rattle.pearl_machine.specs.Seen.{Seen}
use Rattle.pearl_object.specs.Objects.{object_bytes}
use Rattle.pearl_object.proofs.Offered.{object_fits}
use Rattle.pearl_saved.specs.declared.saved.Saved.{Saved}
use Rattle.pearl_saved.specs.Rules.{IsLeastBroken}
use Rattle.pearl_script.specs.declared.refusal.Refusal.TheVariants as refusal
use Rattle.pearl_script.specs.Lines.{lines_of}
use Rattle.pearl_script.specs.Refusals.{refusal_line}
use Rattle.pearl_snap.specs.declared.fault.SnapFault.{SnapFault}
use Rattle.pearl_snap.specs.declared.fault.SnapFault.TheVariants as snap
use Rattle.pearl_snap.specs.declared.snapshot.Snapshot.{Snapshot}
use Rattle.pearl_snap.specs.Numbers.{number}
use Rattle.pearl_snap.specs.Restoring.{IsCause, IsRestored, IsSnapshot}
use Rattle.pearl_snap.specs.Snapshots.{front, snapshot}
use Rattle.pearl_snap.specs.States.{saved}
use Rattle.pearl_top.specs.declared.failure.Failure.TheVariants as failure
use Rattle.pearl_top.specs.declared.limits.TheConstants.{SNAPSHOT_LIMIT}
use Rattle.pearl_top.specs.declared.status.Status.{Status}
use Rattle.pearl_top.specs.declared.status.Status.TheVariants.{Done, NoMemory, ReadFault, Usage}
use Rattle.pearl_top.specs.Complete.{CanResume}
use Rattle.pearl_top.specs.Failures.{IsDue, snap_refusal}
use Rattle.pearl_top.specs.JournalDue.{IsBadJournal, JournalDue}
use Rattle.pearl_top.specs.Reading.{ASnapshot, UnreadDue}
use Rattle.pearl_top.specs.Replay.{IsUnread}
use Rattle.pearl_top.specs.Resumed.{IsResumed, IsResumedOf, by_seen}
use Rattle.pearl_top.specs.ResumeDue.{IsBadState, IsFileWith, IsNoSnapshot, IsNotRestored, IsStateOf, ResumeDue}
use Rattle.pearl_top.specs.ResumeDue.{SnapshotDue}
use Rattle.pearl_top.specs.Runners.{Runner, by_state}
use Rattle.pearl_top.specs.Transcript.{Ended, closing}
use Rattle.pearl_top.proofs.DueLaws.{handled-whole}
use Rattle.pearl_top.proofs.FromLaws.{IsLoaded, from_completes, from_held, from_once, from_read, from_refused}
use Rattle.pearl_top.proofs.FromLaws.{from_unread, from_unrisen, from_usage}
use Rattle.pearl_top.proofs.JournalLaws.{WritesOnce, not_bad}
use Rattle.pearl_top.proofs.RunsOn.{end_once}

-- ONE STATE

-- an object and a state have their bytes, where these are bytes
fits : (s : Snapshot) (file : List ℕ) → IsSnapshot file s.object s.saved → IsBytes (snapshot.bytes s) → snapshot.fits s
unfolding snapshot
fits s file is are =
    let b = object_bytes s.object in
    let n = number_bytes (length b) in
    let behind = bytes_behind front ((n ++ b) ++ saved.bytes s.saved) are in
    let both : IsBytes (n ++ b) = bytes_before (n ++ b) (saved.bytes s.saved) behind in (
      (
        tt,
        (
          (number_in_bytes (length b) (bytes_before n b both), object_fits s.object is.object (bytes_behind n b both)),
          is.state,
        ),
      ),
      refl,
    )

abbrev as_ok : Snapshot → Result Snapshot ℕ
as_ok s = Ok s

abbrev as_err : ℕ → Result Snapshot ℕ
as_err left = Err left

same_ok : (seen : Result Snapshot ℕ) (s t : Snapshot) → seen ≡ Ok s → seen ≡ Ok t → s ≡ t
same_ok seen s t a b = let e : as_ok s ≡ as_ok t = sym a ∙ b in cc

same_err : (seen : Result Snapshot ℕ) (m n : ℕ) → seen ≡ Err m → seen ≡ Err n → m ≡ n
same_err seen m n a b = let e : as_err m ≡ as_err n = sym a ∙ b in cc

abbrev both : Object × Saved → Snapshot
both p = record { object = p.0; saved = p.1 }

-- or none, and one place
never_none : (file bytes : List ℕ) (p : Object × Saved) → IsFileWith file p → IsNoSnapshot file bytes → ⊥
never_none file bytes p is lacks = lacks.none p.0 p.1 is.spelled

one_place : (file bytes others : List ℕ) → IsNoSnapshot file bytes → IsNoSnapshot file others → bytes ≡ others
one_place file bytes others one two =
    let same : one.bad.0 ≡ two.bad.0 = same_err (whole_read snapshot file) one.bad.0 two.bad.0 one.bad.1 two.bad.1 in
    let place : one.place ≡ two.place = one.bad.2 ∙ ap (λ left. length file - left) same ∙ sym two.bad.2 in
    one.text ∙ ap (λ at. refusal_line (refusal.Snapshot at)) place ∙ sym two.text

-- of the rules that a state breaks one is the least
one_rule : (o : Object) (s : Saved) (m n : ℕ) → IsLeastBroken o s m → IsLeastBroken o s n → m ≡ n
one_rule o s m n one two = by (cases_lt m n) (cases_lt n m)
  where
    by : (m < n) ⊎ (n ≤ m) → (n < m) ⊎ (m ≤ n) → m ≡ n
    by (inl less) b = absurd (one.broken (two.kept m less))
    by (inr a) (inl less) = absurd (two.broken (one.kept n less))
    by (inr a) (inr b) = omega arith

refused_within : (file bytes : List ℕ) → IsNotRestored file bytes → length file ≤ SNAPSHOT_LIMIT
refused_within file bytes (inl lacks) = lacks.within
refused_within file bytes (inr bad) = bad.is.within

module _ (read : IsLawful snapshot) where
  read_as : (file : List ℕ) (p : Object × Saved) → IsFileWith file p → whole_read snapshot file ≡ Ok (both p)
  read_as file p is =
      ap (whole_read snapshot) is.spelled.same
      ∙ whole_again snapshot read (both p) (fits (both p) file is.spelled (subst IsBytes is.spelled.same is.in_bytes))

  -- a file has one object and one state
  pub one_state : (file : List ℕ) (p q : Object × Saved) → IsFileWith file p → IsFileWith file q → p ≡ q
  one_state file p q is its =
      ap (λ (s : Snapshot). (s.object, s.saved)) (same_ok (whole_read snapshot file) (both p) (both q)
      (read_as file p is) (read_as file q its))

  rule_once : (file bytes others : List ℕ) → IsBadState file bytes → IsBadState file others → bytes ≡ others
  rule_once file bytes others one two =
      let same : one.state ≡ two.state = one_state file one.state two.state one.is two.is in
      one.text
      ∙ ap (λ rule. refusal_line (refusal.State rule)) (one_rule two.state.0 two.state.1 one.rule two.rule
      (subst (λ (p : Object × Saved). IsLeastBroken p.0 p.1 one.rule) same one.least) two.least)
      ∙ sym two.text

  refused_once : (file bytes others : List ℕ) → IsNotRestored file bytes → IsNotRestored file others → bytes ≡ others
  refused_once file bytes others (inl lacks) (inl also) = one_place file bytes others lacks also
  refused_once file bytes others (inl lacks) (inr bad) = absurd (never_none file bytes bad.state bad.is lacks)
  refused_once file bytes others (inr bad) (inl lacks) = absurd (never_none file others bad.state bad.is lacks)
  refused_once file bytes others (inr bad) (inr also) = rule_once file bytes others bad also

  -- a state from which a run can go on is not refused
  never_refused : (file bytes : List ℕ) (p : Object × Saved) → IsStateOf file p → IsNotRestored file bytes → ⊥
  never_refused file bytes p state (inl lacks) = never_none file bytes p state.is lacks
  never_refused file bytes p state (inr bad) =
      let same : bad.state ≡ p = one_state file bad.state p bad.is state.is in
      let least : IsLeastBroken p.0 p.1 bad.rule =
      subst (λ (q : Object × Saved). IsLeastBroken q.0 q.1 bad.rule) same bad.least in
      least.broken (state.lawful bad.rule)

-- WHAT IS WRITTEN FROM IT

abbrev pub runner : Object × Saved → Runner
runner p = by_state p.0 p.1

-- it is one thing
state_once : (p : Object × Saved) → WritesOnce (runner p)
state_once p lines es ending read close bytes others one two =
    one.text
    ∙ ap (λ (end : Ended). lines_of (setup_of p.0) end.told ++ closing (setup_of p.0) end close)
    (end_once _ _ one.end two.end one.ends two.ends)
    ∙ sym two.text

pub state_loaded : IsLawful snapshot → (file : List ℕ) →
    IsLoaded ASnapshot file (IsNotRestored file) (IsStateOf file) (λ p. by_state p.0 p.1)
state_loaded read file = record {
  within = λ p state. state.is.within;
  refused_within = refused_within file;
  never_both = λ p bytes state. never_refused read file bytes p state;
  refused_once = refused_once read file;
  one = λ p q state its. one_state read file p q state.is its.is;
  writes_once = λ p state. state_once p;
}

-- WHERE NOTHING WAS WRITTEN YET

-- no run goes on from the bytes
pub unrestored : (file : List ℕ) (fault : SnapFault) → length file ≤ SNAPSHOT_LIMIT → IsBytes file →
    IsCause file fault →
    IsDue (SnapshotDue file ⊥) (failure.Refused (snap_refusal fault))
unrestored file (snap.BadBytes place) within are cause =
    inl (record { within = within; none = cause.0; place = place; bad = cause.1; text = refl })
unrestored file (snap.BadState rule) within are cause =
    inr (record {
      state = (cause.0, cause.1);
      is = record { within = within; in_bytes = are; spelled = cause.2 };
      rule = number rule;
      least = cause.3;
      text = refl;
    })
unrestored file snap.NoMemory within are cause = refl

-- a run goes on from them
pub is_resumed_of : (file : List ℕ) (o : Object) (s : Saved) (seen : Seen) → length file ≤ SNAPSHOT_LIMIT →
    IsBytes file → IsRestored file (o, s) →
    seen ≡ resumed o s → IsResumedOf file seen
is_resumed_of file o s seen within are restored starts =
    let same : o ≡ seen.object = ap (λ (x : Seen). x.object) (sym starts) in
    let state : IsStateOf file (o, s) =
    record { is = record { within = within; in_bytes = are; spelled = restored.0 }; lawful = restored.1 } in record {
      saved = s;
      is = subst (λ p. IsStateOf file (p, s)) same state;
      starts = starts ∙ ap (λ p. resumed p s) same;
    }

pub is_resumed : (file : List ℕ) (seen : Seen) → IsResumedOf file seen → IsResumed seen
is_resumed file seen of = record {
  saved = of.saved;
  lawful = of.is.is.spelled.object;
  state = of.is.lawful;
  starts = of.starts;
}

-- nothing was read of a journal that goes on
pub later_unread : (kept : Kept) → kept ≡ begin_later → IsUnread kept
later_unread kept new =
    subst IsUnread (sym new)
    (record { none = refl; empty = refl; partial = refl; unfinished = refl; unrefused = refl })

pub later_first : (kept : Kept) (seen : Seen) → kept ≡ begin_later →
    reading_at kept seen.state.core.moment ≡ (by_seen seen).first
later_first kept seen new = ap (λ k. reading_at k seen.state.core.moment) new

-- WHAT IS DUE

pub resume_unread : (file journal : List ℕ) (rose also : Type 0) (status : Status) (bytes : List ℕ) →
    UnreadDue file SNAPSHOT_LIMIT rose status bytes →
    ResumeDue file journal rose also status bytes
resume_unread file journal = from_unread ASnapshot file (IsNotRestored file) (IsStateOf file) runner journal

pub resume_refused : (read file journal : List ℕ) (rose also : Type 0) (status : Status) (bytes : List ℕ) →
    read ≡ file → SnapshotDue read ⊥ status bytes →
    ResumeDue file journal rose also status bytes
resume_refused read file journal rose also status bytes same due =
    from_refused ASnapshot file (IsNotRestored file) (IsStateOf file) runner journal rose also status bytes
    (subst (λ f. SnapshotDue f ⊥ status bytes) same due)

pub resume_accepted : (read file journal : List ℕ) (rose also later : Type 0) (seen : Seen) (status : Status)
    (bytes : List ℕ) → read ≡ file → (also → later) →
    IsResumedOf read seen → JournalDue (by_seen seen) journal also status bytes →
    ResumeDue file journal rose later status bytes
resume_accepted read file journal rose also later seen status bytes same on of due =
    from_held ASnapshot file (IsNotRestored file) (IsStateOf file) runner journal
    (seen.object, of.saved) rose also later status bytes on
    (subst (λ f. IsStateOf f (seen.object, of.saved)) same of.is)
    (subst (λ (s : Seen). JournalDue (by_seen s) journal also status bytes) of.starts due)

pub resume_unrisen : (file journal : List ℕ) (rose also : Type 0) (status : Status) (bytes : List ℕ) →
    status ≢ ReadFault →
    ResumeDue file journal rose also status bytes → ResumeDue file journal ⊥ ⊥ status bytes
resume_unrisen file journal = from_unrisen ASnapshot file (IsNotRestored file) (IsStateOf file) runner journal

pub resume_usage : (file journal : List ℕ) (a b : Type 0) (bytes : List ℕ) → ResumeDue file journal a b Usage bytes → ⊥
resume_usage file journal = from_usage ASnapshot file (IsNotRestored file) (IsStateOf file) runner journal

pub resume_read : (file journal : List ℕ) (a b : Type 0) (bytes : List ℕ) → ResumeDue file journal a b ReadFault bytes →
    a ⊎ b
resume_read file journal = from_read ASnapshot file (IsNotRestored file) (IsStateOf file) runner journal

pub resume_unread_free : (file journal bytes : List ℕ) → ResumeDue file journal ⊥ ⊥ ReadFault bytes → ⊥
resume_unread_free file journal bytes (inl due) = due.0
resume_unread_free file journal bytes (inr (p, state, due)) = due.0

pub resume_once : IsLawful snapshot → (file journal : List ℕ) (status other : Status) (bytes others : List ℕ) →
    status ≢ NoMemory → other ≢ NoMemory →
    ResumeDue file journal ⊥ ⊥ status bytes → ResumeDue file journal ⊥ ⊥ other others →
    (status ≡ other) × (bytes ≡ others)
resume_once read file journal status other bytes others =
    from_once ASnapshot file (IsNotRestored file) (IsStateOf file) runner journal status other bytes others
    (state_loaded read file)

-- TO ITS END

state_not_bad : IsLawful snapshot → (p : Object × Saved) (file journal bytes : List ℕ) → IsStateOf file p →
    CanResume file journal →
    IsBadJournal (runner p) journal bytes → ⊥
state_not_bad read p file journal bytes state order bad =
    let same : order.state ≡ p = one_state read file order.state p order.is.is state.is in
    not_bad (runner p) journal bytes order.es
    (ap₂ (λ (q : Object × Saved) lines. entries_from (setup_of q.0) (runner q).first lines) (sym same)
    (handled-whole journal order.within) ∙ order.read) bad

pub resume_completes : IsLawful snapshot → (file journal : List ℕ) (rose also : Type 0) (status : Status)
    (bytes : List ℕ) → CanResume file journal →
    ResumeDue file journal rose also status bytes → status ≢ NoMemory → status ≢ ReadFault → status ≡ Done
resume_completes read file journal rose also status bytes order due no_memory no_read =
    from_completes ASnapshot file (IsNotRestored file) (IsStateOf file) runner journal rose also status bytes
    order.is.is.within (λ line. never_refused read file line order.state order.is) order.within
    (λ p line state. state_not_bad read p file journal line state order) due no_memory no_read
