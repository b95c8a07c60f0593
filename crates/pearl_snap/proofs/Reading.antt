-- What the reading of all of some bytes tells: the snapshot, or the first bad field.
use Rattle.std.proofs.Common.{◌≡◌, ℕ, zero, suc, cond, eqb, inl, inr, ◌-◌, ◌<◌, List, [], ◌∷◌, ◌++◌, length, take, get_or, Result, Ok, Err, refl, sym, ap, subst, ◌∙◌, arith, length-append}
use Rattle.std.proofs.lemmas.List.{append-nil}
use Rattle.pearl_instructions.specs.Lawful.{IsObject}
use Rattle.pearl_fields.specs.declared.fault.ReadFault.{ReadFault}
use Rattle.pearl_fields.specs.declared.fault.ReadFault.TheVariants as fault
use Rattle.pearl_fields.specs.Codec.{IsBytes, number_bytes, whole_read}
use Rattle.pearl_fields.proofs.Offered.{whole_takes, whole_again, none_begins, local, bind_err, guard_err, ok_is, bytes_before, bytes_behind, whole_before, number_in_bytes}
use Rattle.pearl_object.specs.Objects.{object_bytes}
use Rattle.pearl_object.proofs.Offered.{object_fits}
use Rattle.pearl_snap.specs.declared.snapshot.Snapshot.{Snapshot}
use Rattle.pearl_snap.specs.States.{saved}
use Rattle.pearl_snap.specs.Snapshots.{front, snapshot, snapshot_bytes, GivesWhole, IsFaultless}
use Rattle.pearl_snap.proofs.Embedding.{snapshot_told}

pub bytes_together : (xs ys : List ℕ) → IsBytes xs → IsBytes ys → (i : ℕ) → get_or (xs ++ ys) i 0 < 256
bytes_together [] ys h k i = k i
bytes_together (x ∷ xs) ys h k zero = h 0
bytes_together (x ∷ xs) ys h k (suc i) = bytes_together xs ys (λ j. h (suc j)) k i

-- an object and a state have their bytes, where these are bytes
fits_of : (s : Snapshot) → IsObject s.object → saved.fits s.saved → IsBytes (snapshot.bytes s) → snapshot.fits s
unfolding snapshot
fits_of s is fits are =
    let b = object_bytes s.object in
    let n = number_bytes (length b) in
    let behind = bytes_behind front ((n ++ b) ++ saved.bytes s.saved) are in
    let both : IsBytes (n ++ b) = bytes_before (n ++ b) (saved.bytes s.saved) behind in
    ((tt, ((number_in_bytes (length b) (bytes_before n b both), object_fits s.object is (bytes_behind n b both)), fits)), refl)

pub snapshot_takes : (bytes : List ℕ) (s : Snapshot) → IsBytes bytes → whole_read snapshot bytes ≡ Ok s → (bytes ≡ snapshot.bytes s) × snapshot.fits s
snapshot_takes bytes s are seen = whole_takes snapshot snapshot_told.lawful bytes s are seen

pub saved_fits : (s : Snapshot) → snapshot.fits s → saved.fits s.saved
unfolding snapshot
saved_fits s h = h.0.1.1

pub seen_of : (bytes : List ℕ) (s : Snapshot) → IsBytes bytes → IsObject s.object → saved.fits s.saved → bytes ≡ snapshot_bytes s.object s.saved → whole_read snapshot bytes ≡ Ok s
seen_of bytes s are is fits same =
    ap (whole_read snapshot) same ∙ whole_again snapshot snapshot_told.lawful s (fits_of s is fits (subst IsBytes same are))

abbrev as_ok : Snapshot → Result Snapshot ℕ
as_ok s = Ok s

pub same_snapshot : (seen : Result Snapshot ℕ) (s t : Snapshot) → seen ≡ Ok s → seen ≡ Ok t → s ≡ t
same_snapshot seen s t a b = let e : as_ok s ≡ as_ok t = sym a ∙ b in cc

pub never_both : (seen : Result Snapshot ℕ) (s : Snapshot) (left : ℕ) → seen ≡ Ok s → seen ≡ Err left → ⊥
never_both seen s left p q = let e = sym p ∙ q in cc

-- bytes that are bad before their end begin no snapshot
pub begins_none : (bytes : List ℕ) (left : ℕ) → IsBytes bytes → whole_read snapshot bytes ≡ Err left → 0 < left → (s : Snapshot) (more : List ℕ) → IsObject s.object → saved.fits s.saved → IsBytes more → snapshot_bytes s.object s.saved ≡ bytes ++ more → ⊥
begins_none bytes zero are seen some s more is fits small same = absurd (omega arith)
begins_none bytes (suc left) are seen some s more is fits small same =
    let spelled = fits_of s is fits (subst IsBytes (sym same) (bytes_together bytes more are small)) in
    elim (bind_err (snapshot.read bytes) (λ x. cond (eqb (length x.1) 0) (Ok x.0) (Err (length x.1))) (suc left) seen) [
      | inl e ↦ none_begins snapshot snapshot_told.lawful bytes more left s are e spelled same
      | inr a ↦
          let far : snapshot.read (bytes ++ more) ≡ Ok (a.0.0, a.0.1 ++ more) = local snapshot snapshot_told.lawful bytes a.0.0 a.0.1 more are a.1 in
          let near : snapshot.read (bytes ++ more) ≡ Ok (s, []) = ap snapshot.read (sym same ∙ sym (append-nil (snapshot.bytes s))) ∙ snapshot_told.lawful.again s [] spelled in
          let none : a.0.1 ++ more ≡ [] = ap (λ p. p.1) (ok_is (a.0.0, a.0.1 ++ more) (s, []) (sym far ∙ near)) in
          let len : length a.0.1 ≡ suc left = (guard_err (eqb (length a.0.1) 0) (length a.0.1) (suc left) a.0.0 a.2).1 in
          omega (arith, len, ap length none, length-append a.0.1 more)
    ]

pub none_before : (bytes : List ℕ) (left : ℕ) → IsBytes bytes → whole_read snapshot bytes ≡ Err left → IsFaultless (whole_read snapshot (take (length bytes - left) bytes))
none_before bytes left are seen = whole_before snapshot snapshot_told bytes left are seen

pub whole_bad : (seen : Result Snapshot ℕ) (f : ReadFault) (left : ℕ) → f ≡ fault.Bad left → GivesWhole seen (Err f) → seen ≡ Err left
whole_bad seen f left is h = subst (λ g. GivesWhole seen (Err g)) is h
