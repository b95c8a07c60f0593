-- What a snapshot is restored to, and what holds then of all that have the same bytes.
use Rattle.std.proofs.Common.{◌≡◌, ℕ, zero, suc, ◌<◌, List, Result, Ok, Err, Some, None, sym, subst, ◌∙◌, arith}
use Rattle.std.specs.Prelude.{IfOk, IfErr}
use Rattle.pearl_instructions.specs.declared.object.Parts.{Parts as Object}
use Rattle.pearl_instructions.specs.Lawful.{IsObject}
use Rattle.pearl_verify.specs.declared.verify.VerifyFault.{VerifyFault}
use Rattle.pearl_verify.specs.declared.verify.VerifyFault.TheVariants.{Unsound}
use Rattle.pearl_verify.specs.Verdicts.{IsLeast}
use Rattle.pearl_snap.specs.declared.fault.ReadFail.{ReadFail}
use Rattle.pearl_snap.specs.declared.fault.ReadFail.TheVariants as fail
use Rattle.pearl_snap.specs.declared.fault.SnapFault.{SnapFault}
use Rattle.pearl_snap.specs.declared.fault.SnapFault.TheVariants.{BadBytes, BadState, NoMemory}
use Rattle.pearl_saved.specs.declared.saved.Saved.{Saved}
use Rattle.pearl_snap.specs.declared.snapshot.Snapshot.{Snapshot}
use Rattle.pearl_snap.specs.States.{saved}
use Rattle.pearl_snap.specs.Snapshots.{snapshot_bytes, IsThis, IsBad}
use Rattle.pearl_saved.specs.Rules.{Rule, IsLeastBroken}
use Rattle.pearl_records.specs.States.{AllEnd}
use Rattle.pearl_snap.specs.Restoring.{cause_of, IsSnapshot, IsRestored, IsCause, Restores}
use Rattle.pearl_snap.proofs.Ends.{fits_ends}

-- where an object isn't valid, that is the least rule on a state of it which is broken
pub unsound_breaks : (o : Object) (s : Saved) (f : VerifyFault) (r i rule : ℕ) → f ≡ Unsound r i rule → IsLeast o f → IsLeastBroken o s 1
unsound_breaks o s f r i rule is least = record {
  kept = none;
  broken = λ v. (let fails = subst (IsLeast o) is least in let two : Some rule ≡ None = sym fails.0 ∙ v.sound r i in cc);
}
  where
    none : (m : ℕ) → m < 1 → Rule o s m
    none zero less = tt
    none (suc m) less = absurd (omega (arith, less))

-- ---- the snapshot that has the bytes

pub snapshot_is : (bytes : List ℕ) (t : Snapshot) → IsObject t.object → (bytes ≡ snapshot_bytes t.object t.saved) × saved.fits t.saved → IsSnapshot bytes t.object t.saved
snapshot_is bytes t lawful h = record { object = lawful; state = h.1; same = h.0 }

module _ (bytes : List ℕ) (o : Object) (s : Saved) (is : IsSnapshot bytes o s) where
  pub comes_back : (r : Result (Object × Saved) SnapFault) → Restores o s r → IfOk r (IsRestored bytes)
  comes_back (Ok p) h = subst (IsRestored bytes) (sym h.0) (is, h.1)
  comes_back (Err fault) h = tt

  pub still_ends : (r : Result (Object × Saved) SnapFault) → Restores o s r → IfOk r (λ p. AllEnd p.1.core)
  still_ends (Ok p) h = subst (λ (q : Object × Saved). AllEnd q.1.core) (sym h.0) (fits_ends s is.state)
  still_ends (Err fault) h = tt

  pub has_cause : (r : Result (Object × Saved) SnapFault) → Restores o s r → IfErr r (IsCause bytes)
  has_cause (Ok p) h = tt
  has_cause (Err (BadBytes place)) h = absurd h
  has_cause (Err (BadState rule)) h = (o, s, is, h)
  has_cause (Err NoMemory) h = tt

abbrev pub joined : Object → Saved → Snapshot
joined o s = record { object = o; saved = s }

-- all that have the bytes are one
pub comes_to : (t : Snapshot) (r : Result (Object × Saved) SnapFault) → Restores t.object t.saved r → (o : Object) (s : Saved) → t ≡ joined o s → Restores o s r
comes_to t r h o s same = subst (λ u. Restores u.object u.saved r) same h

-- ---- bytes that no snapshot has

abbrev Only : List ℕ → ReadFail → Type 0
Only bytes f = (s : Snapshot) → IsObject s.object → saved.fits s.saved → bytes ≡ snapshot_bytes s.object s.saved → IsThis s (Err f)

pub unread : (bytes : List ℕ) (f : ReadFail) (g : SnapFault) → g ≡ cause_of f → Only bytes f → IsBad bytes (Err f) → IsCause bytes g
unread bytes (fail.BadBytes place) g is only bad = subst (IsCause bytes) (sym is) (λ o s h. only (joined o s) h.object h.state h.same, bad)
unread bytes fail.NoMemory g is only bad = subst (IsCause bytes) (sym is) tt

pub only_unread : (bytes : List ℕ) (f : ReadFail) (g : SnapFault) → g ≡ cause_of f → Only bytes f → (o : Object) (s : Saved) → IsSnapshot bytes o s → Restores o s (Err g)
only_unread bytes (fail.BadBytes place) g is only o s h = absurd (only (joined o s) h.object h.state h.same)
only_unread bytes fail.NoMemory g is only o s h = subst (λ e. Restores o s (Err e)) (sym is) tt
