-- A part behind the number of its bytes keeps what is told of it; so a snapshot is read as it is spelled.
use Rattle.std.proofs.Common.{◌≡◌, ℕ, suc, ◌-◌, ◌≤◌, ◌<◌, ◌^◌, Bool, true, false, cond, ltb, ltb-false, List, [], ◌∷◌, ◌++◌, length, take, drop, Result, Ok, Err, refl, sym, ap, subst, ◌∙◌, append_assoc, arith, inl, inr, length-append, ◌⊎◌}
use Rattle.std.proofs.lemmas.List.{take-append-drop, take-append-le, length-take-le, take_all}
use Rattle.pearl_fields.specs.declared.fault.ReadFault.{ReadFault}
use Rattle.pearl_fields.specs.declared.fault.ReadFault.TheVariants as fault
use Rattle.pearl_fields.specs.Codec.{◌>>=◌, Seen, Codec, exactly, exact_read, number, number_bytes, number_read, whole_read, IsBytes, IsLawful, IsOrdered}
use Rattle.pearl_fields.specs.Reads.{Fails}
use Rattle.pearl_fields.proofs.Offered.{IsTold, number_told, pair_told, shaped_told, exactly_told, whole_takes, whole_again, bind_err, ok_is, local, bytes_before, bytes_behind}
use Rattle.pearl_object.specs.Objects.{object}
use Rattle.pearl_object.proofs.Offered.{object_told}
use Rattle.pearl_snap.specs.Snapshots.{blamed, held_in, embedded_read, embedded, front, snapshot}
use Rattle.pearl_snap.proofs.Wholes.{saved_told}

module _ {X : Type 0} (c : Codec X) (l : IsLawful c) where
  blamed_takes : (field : ℕ) (inner behind : List ℕ) (x : X) (rest : List ℕ) → IsBytes inner → blamed field (whole_read c inner) behind ≡ Ok (x, rest) → (inner ≡ c.bytes x) × ((behind ≡ rest) × c.fits x)
  blamed_takes field inner behind x rest are h = by_seen (whole_read c inner) refl h
    where
      by_seen : (seen : Result X ℕ) → whole_read c inner ≡ seen → blamed field seen behind ≡ Ok (x, rest) → (inner ≡ c.bytes x) × ((behind ≡ rest) × c.fits x)
      by_seen (Ok y) e k =
          let t = whole_takes c l inner y are e in
          subst (λ p. (inner ≡ c.bytes p.0) × ((behind ≡ p.1) × c.fits p.0)) (ok_is (y, behind) (x, rest) k) (t.0, (refl, t.1))
      by_seen (Err left) e k = absurd cc

  blamed_err : (field left : ℕ) (inner behind : List ℕ) → blamed field (whole_read c inner) behind ≡ Err left → (field ≡ left) × ((d : ℕ) × (whole_read c inner ≡ Err d))
  blamed_err field left inner behind h = by_seen (whole_read c inner) refl h
    where
      by_seen : (seen : Result X ℕ) → whole_read c inner ≡ seen → blamed field seen behind ≡ Err left → (field ≡ left) × ((d : ℕ) × (whole_read c inner ≡ Err d))
      by_seen (Ok y) e k = absurd cc
      by_seen (Err d) e k = (cc, (d, e))

  held_takes : (field count : ℕ) (bytes : List ℕ) (x : X) (rest : List ℕ) → IsBytes bytes → held_in c field count bytes ≡ Ok (x, rest) → (bytes ≡ c.bytes x ++ rest) × ((length (c.bytes x) ≡ count) × c.fits x)
  held_takes field count bytes x rest are h = by_room (ltb (length bytes) count) refl h
    where
      by_room : (t : Bool) → ltb (length bytes) count ≡ t → cond t (Err 0) (blamed field (whole_read c (take count bytes)) (drop count bytes)) ≡ Ok (x, rest) → (bytes ≡ c.bytes x ++ rest) × ((length (c.bytes x) ≡ count) × c.fits x)
      by_room true p k = absurd cc
      by_room false p k =
          let all = take-append-drop count bytes in
          let few : IsBytes (take count bytes) = bytes_before (take count bytes) (drop count bytes) (subst IsBytes (sym all) are) in
          let b = blamed_takes field (take count bytes) (drop count bytes) x rest few k in
          let size = length-take-le count bytes (ltb-false (length bytes) count p) in
          (sym all ∙ ap (λ bs. bs ++ drop count bytes) b.0 ∙ ap (λ bs. c.bytes x ++ bs) b.1.0, (ap length (sym b.0) ∙ size, b.1.1))

  -- there are too few bytes, or all of so many are read with a fault
  held_err : (field count left : ℕ) (bytes : List ℕ) → held_in c field count bytes ≡ Err left → (0 ≡ left) ⊎ ((count ≤ length bytes) × ((field ≡ left) × ((d : ℕ) × (whole_read c (take count bytes) ≡ Err d))))
  held_err field count left bytes h = by_room (ltb (length bytes) count) refl h
    where
      by_room : (t : Bool) → ltb (length bytes) count ≡ t → cond t (Err 0) (blamed field (whole_read c (take count bytes)) (drop count bytes)) ≡ Err left → (0 ≡ left) ⊎ ((count ≤ length bytes) × ((field ≡ left) × ((d : ℕ) × (whole_read c (take count bytes) ≡ Err d))))
      by_room true p k = inl cc
      by_room false p k = inr (ltb-false (length bytes) count p, blamed_err field left (take count bytes) (drop count bytes) k)

-- there is room
has_room : (m n : ℕ) → n ≤ m → ltb m n ≡ false
has_room m n h = grind arith

take_front : (xs ys : List ℕ) → take (length xs) (xs ++ ys) ≡ xs
take_front [] ys = refl
take_front (x ∷ xs) ys = ap (λ zs. x ∷ zs) (take_front xs ys)

drop_front : (xs ys : List ℕ) → drop (length xs) (xs ++ ys) ≡ ys
drop_front [] ys = refl
drop_front (x ∷ xs) ys = drop_front xs ys

held_again : {X : Type 0} (c : Codec X) → IsLawful c → (field : ℕ) (x : X) (rest : List ℕ) → c.fits x → held_in c field (length (c.bytes x)) (c.bytes x ++ rest) ≡ Ok (x, rest)
held_again c l field x rest h =
    let room = has_room (length (c.bytes x ++ rest)) (length (c.bytes x)) (omega (arith, length-append (c.bytes x) rest)) in
    rw (room, take_front (c.bytes x) rest, drop_front (c.bytes x) rest, whole_again c l x h) refl

held_stays : {X : Type 0} (c : Codec X) (field count d : ℕ) (bytes more : List ℕ) → count ≤ length bytes → whole_read c (take count bytes) ≡ Err d → held_in c field count (bytes ++ more) ≡ Err field
held_stays c field count d bytes more le seen =
    let room = has_room (length (bytes ++ more)) count (omega (arith, le, length-append bytes more)) in
    rw (room, take-append-le count bytes more le, seen) refl

empty_number : number_read [] ≡ Err 0
unfolding number_read
empty_number = refl

embedded_lawful : {X : Type 0} (c : Codec X) → IsLawful c → IsLawful (embedded c)
unfolding embedded_read
embedded_lawful {X} c l = record {
  takes = λ bytes x rest are e. by_number bytes x rest are (number_read bytes) refl e;
  again = λ x rest h.
      rw (append_assoc (number_bytes (length (c.bytes x))) (c.bytes x) rest, number_told.lawful.again (length (c.bytes x)) (c.bytes x ++ rest) h.0) (held_again c l _ x rest h.1);
  stays = λ bytes more left are e. elim (bind_err (number_read bytes) (λ n. held_in c (length bytes) n.0 n.1) (suc left) e) [
    | inl f ↦ rw (number_told.lawful.stays bytes more left are f) refl
    | inr n ↦ elim (held_err c l (length bytes) n.0.0 (suc left) n.0.1 n.2) [
      | inl z ↦ absurd (omega (arith, z))
      | inr h ↦
          rw (local number number_told.lawful bytes n.0.0 n.0.1 more are n.1) (held_stays c (length (bytes ++ more)) n.0.0 h.1.1.0 n.0.1 more h.0 h.1.1.1 ∙ ap Err (omega (arith, h.1.0, length-append bytes more)))
    ]
  ];
}
  where
    by_number : (bytes : List ℕ) (x : X) (rest : List ℕ) → IsBytes bytes → (seen : Seen ℕ) → number_read bytes ≡ seen → (seen >>= λ n. held_in c (length bytes) n.0 n.1) ≡ Ok (x, rest)
        → (bytes ≡ (number_bytes (length (c.bytes x)) ++ c.bytes x) ++ rest) × ((length (c.bytes x) < 2 ^ 64) × c.fits x)
    by_number bytes x rest are (Err left) e k = absurd cc
    by_number bytes x rest are (Ok n) e k =
        let t = number_told.lawful.takes bytes n.0 n.1 are e in
        let h = held_takes c l (length bytes) n.0 n.1 x rest (bytes_behind (number_bytes n.0) n.1 (subst IsBytes t.0 are)) k in (
          t.0 ∙ ap (λ bs. number_bytes n.0 ++ bs) h.0 ∙ ap (λ m. number_bytes m ++ (c.bytes x ++ rest)) (sym h.1.0) ∙ sym (append_assoc (number_bytes (length (c.bytes x))) (c.bytes x) rest),
          (omega (arith, t.1, h.1.0), h.1.1),
        )

embedded_ordered : {X : Type 0} (c : Codec X) → IsLawful c → IsOrdered (embedded c)
unfolding embedded_read
embedded_ordered c l = record {
  before = λ bytes left are e. elim (bind_err (number_read bytes) (λ n. held_in c (length bytes) n.0 n.1) left e) [
    | inl f ↦ let h = number_told.ordered.before bytes left are f in (h.0, rw h.1 refl)
    | inr n ↦ elim (held_err c l (length bytes) n.0.0 left n.0.1 n.2) [
      | inl z ↦
          let whole : take (length bytes - left) bytes ≡ bytes = take_all (length bytes - left) bytes (omega (arith, z)) in
          (omega (arith, z), ap (embedded_read c) whole ∙ e ∙ ap Err (sym z))
      | inr h ↦
          let none : take (length bytes - left) bytes ≡ [] = let n : length bytes - left ≡ 0 = omega (arith, h.1.0) in rw n refl in
          (omega (arith, h.1.0), ap (embedded_read c) none ∙ rw empty_number refl)
    ]
  ];
}

embedded_told : {X : Type 0} (c : Codec X) → IsTold c → IsTold (embedded c)
embedded_told c t = record { lawful = embedded_lawful c t.lawful; ordered = embedded_ordered c t.lawful }

pub snapshot_told : IsTold snapshot
unfolding snapshot
snapshot_told =
    shaped_told (λ s. (tt, (s.object, s.saved))) (λ p. record { object = p.1.0; saved = p.1.1 }) _
    (pair_told (exactly front) _ (exactly_told 80 (82 ∷ 83 ∷ 49 ∷ [])) (λ x. pair_told (embedded object) _ (embedded_told object object_told) (λ o. saved_told))) (λ a h. refl)

-- ---- reading the parts one after the other

pub front_fails : {X : Type 0} (c : Codec X) (bytes : List ℕ) (f : ReadFault) → Fails (number_read bytes) f → Fails (embedded_read c bytes) f
unfolding embedded_read
front_fails c bytes (fault.Bad left) e = rw e refl
front_fails c bytes fault.NoMemory e = tt

has_less : (m n : ℕ) → m < n → ltb m n ≡ true
has_less m n h = grind arith

pub front_short : {X : Type 0} (c : Codec X) (bytes rest : List ℕ) (count : ℕ) → number_read bytes ≡ Ok (count, rest) → length rest < count → embedded_read c bytes ≡ Err 0
unfolding embedded_read
front_short c bytes rest count e less = rw (e, has_less (length rest) count less) refl

module _ {X : Type 0} (c : Codec X) (bytes rest inner : List ℕ) (count : ℕ) (e : number_read bytes ≡ Ok (count, rest)) (le : count ≤ length rest) (is : inner ≡ take count rest) where
  pub part_read : (x : X) (behind : List ℕ) → behind ≡ drop count rest → whole_read c inner ≡ Ok x → embedded_read c bytes ≡ Ok (x, behind)
  unfolding embedded_read
  part_read x behind left seen =
      let here : whole_read c (take count rest) ≡ Ok x = ap (whole_read c) (sym is) ∙ seen in rw (e, has_room (length rest) count le, here, left) refl

  pub part_bad : (d : ℕ) → whole_read c inner ≡ Err d → embedded_read c bytes ≡ Err (length bytes)
  unfolding embedded_read
  part_bad d seen = let here : whole_read c (take count rest) ≡ Err d = ap (whole_read c) (sym is) ∙ seen in rw (e, has_room (length rest) count le, here) refl

-- what stands behind the front is no more than there was
pub front_shorter : (bytes rest : List ℕ) → IsBytes bytes → exact_read (length bytes) front bytes ≡ Ok (tt, rest) → length rest ≤ length bytes
front_shorter bytes rest are e =
    let t = (exactly_told 80 (82 ∷ 83 ∷ 49 ∷ [])).lawful.takes bytes tt rest are e in omega (arith, ap length t.0, length-append front rest)
