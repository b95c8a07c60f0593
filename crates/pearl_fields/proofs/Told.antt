-- Parts that are made of lawful parts, in which nothing before a bad field is bad, are such parts.
use Rattle.std.proofs.Common.{◌≡◌, ℕ, zero, suc, ◌+◌, ◌-◌, ◌^◌, ◌<◌, Bool, true, false, cond, eqb, ℤ, List, [], ◌∷◌, ◌++◌, length, take, Ok, Err, refl, sym, ap, subst, ◌∙◌, arith, length-append, inl, inr, ◌⊎◌}
use Rattle.pearl_fields.specs.Codec.{Codec, Seen, byte, byte_in, within, guarded, spelled_if, pair, nothing, never, shaped, keyed, arm_at, tagged, rolled, counted, number, number_in, signed_in, exact_read, exactly, whole_read, list_of, IsBytes, IsLawful, IsOrdered}
use Rattle.pearl_fields.proofs.Laws as laws
use Rattle.pearl_fields.proofs.Laws.{bind_err, err_is, guard_err, ok_is}
use Rattle.pearl_fields.proofs.Numbers as numbers
use Rattle.pearl_fields.proofs.Places as places

pub record IsTold {X : Type 0} (c : Codec X) : Type 0 where
  pub lawful : IsLawful c
  pub ordered : IsOrdered c

-- without bytes a part that always has some is cut
empty_read : {X : Type 0} (c : Codec X) → IsTold c → ((x : X) → c.fits x → 0 < length (c.bytes x)) → c.read [] ≡ Err 0
empty_read {X} c t some = by_seen (c.read []) refl
  where
    by_seen : (seen : Seen X) → c.read [] ≡ seen → c.read [] ≡ Err 0
    by_seen (Ok x) e =
        let h = t.lawful.takes [] x.0 x.1 (λ i. omega arith) e in
        absurd (omega (arith, some x.0 h.1, ap length h.0, length-append (c.bytes x.0) x.1))
    by_seen (Err left) e =
        let h = t.ordered.before [] left (λ i. omega arith) e in
        let none : left ≡ 0 = omega (arith, h.0) in e ∙ ap Err none

pub byte_told : (ok : ℕ → Bool) → IsTold (byte ok)
byte_told ok = record { lawful = laws.byte_lawful ok; ordered = places.byte_ordered ok }

pub number_told : IsTold number
number_told = record { lawful = numbers.number_lawful; ordered = places.number_ordered }

pub number_in_told : (low high : ℕ) → IsTold (number_in low high)
number_in_told low high = record { lawful = numbers.number_in_lawful low high; ordered = places.number_in_ordered low high }

pub signed_in_told : (low high : ℤ) → IsTold (signed_in low high)
signed_in_told low high = record { lawful = numbers.signed_in_lawful low high; ordered = places.signed_in_ordered low high }

pub nothing_told : {X : Type 0} (x : X) → IsTold (nothing x)
nothing_told x = record { lawful = laws.nothing_lawful x; ordered = places.nothing_ordered x }

pub never_told : {X : Type 0} → IsTold (never {X = X})
never_told {X} = record { lawful = laws.never_lawful; ordered = places.never_ordered X }

pub guarded_told : {X : Type 0} (ok : X → Bool) (c : Codec X) → IsTold c → ((x : X) → c.fits x → 0 < length (c.bytes x)) → IsTold (guarded ok c)
guarded_told ok c t some = record {
  lawful = laws.guarded_lawful ok c t.lawful some;
  ordered = places.guarded_ordered ok c t.ordered (empty_read c t some);
}

pub spelled_told : {X : Type 0} (ok : X → Bool) (c : Codec X) → IsTold c → ((x : X) → c.fits x → ok x ≡ true) → IsTold (spelled_if ok c)
spelled_told ok c t known = record { lawful = laws.spelled_lawful ok c t.lawful known; ordered = record { before = t.ordered.before } }

pub pair_told : {X Y : Type 0} (c : Codec X) (d : X → Codec Y) → IsTold c → ((x : X) → IsTold (d x)) → IsTold (pair c d)
pair_told c d t u = record {
  lawful = laws.pair_lawful c d t.lawful (λ x. (u x).lawful);
  ordered = places.pair_ordered c d t.lawful t.ordered (λ x. (u x).ordered);
}

pub shaped_told : {A X : Type 0} (split : X → A) (make : A → X) (c : Codec A) → IsTold c → ((a : A) → c.fits a → split (make a) ≡ a) → IsTold (shaped split make c)
shaped_told split make c t back = record {
  lawful = laws.shaped_lawful split make c t.lawful back;
  ordered = places.shaped_ordered split make c t.ordered;
}

pub keyed_told : {K X : Type 0} (key : X → K) (k : Codec K) (arm : K → Codec X) → IsTold k → ((t : K) → IsTold (arm t)) → ((t : K) (x : X) → (arm t).fits x → key x ≡ t) → IsTold (keyed key k arm)
keyed_told key k arm l m known = record {
  lawful = laws.keyed_lawful key k arm l.lawful (λ t. (m t).lawful) known;
  ordered = places.keyed_ordered key k arm l.lawful l.ordered (λ t. (m t).ordered);
}

-- an arm, whose values have this tag
pub record IsArm {X : Type 0} (tag : X → ℕ) (t : ℕ) (c : Codec X) : Type 0 where
  pub told : IsTold c
  pub tagged : (x : X) → c.fits x → tag x ≡ t

abbrev pub AreArms : {X : Type 0} → (X → ℕ) → ℕ → List (Codec X) → Type 0
AreArms tag t [] = Unit {0}
AreArms tag t (c ∷ arms) = IsArm tag t c × AreArms tag (suc t) arms

pub arm_of : {X : Type 0} (tag : X → ℕ) (t : ℕ) (arms : List (Codec X)) → AreArms tag t arms → (n : ℕ) → IsArm tag (t + n) (arm_at arms n)
arm_of tag t [] are n = record { told = never_told; tagged = λ x h. absurd h }
arm_of tag t (c ∷ arms) are zero = let same : t + 0 ≡ t = omega arith in rw same are.0
arm_of tag t (c ∷ arms) are (suc n) = let same : t + suc n ≡ suc t + n = omega arith in rw same (arm_of tag (suc t) arms are.1 n)

pub tagged_told : {X : Type 0} (low : ℕ) (tag : X → ℕ) (arms : List (Codec X)) → AreArms tag 0 arms → IsTold (tagged low tag arms)
tagged_told low tag arms are =
    keyed_told tag (byte_in low (length arms - 1)) (arm_at arms) (byte_told (within low (length arms - 1))) (λ t. (arm_of tag 0 arms are t).told) (λ t x h. (arm_of tag 0 arms are t).tagged x h ∙ omega arith)

-- an arm that is made of its operands
pub made_arm : {A X : Type 0} (tag : X → ℕ) (t : ℕ) (take : X → A) (make : A → X) (c : Codec A) → IsTold c → ((a : A) → take (make a) ≡ a) → ((a : A) → tag (make a) ≡ t) → IsArm tag t (shaped take make c)
made_arm tag t take make c l back is = record { told = shaped_told take make c l (λ a h. back a); tagged = λ x h. ap tag (sym h.1) ∙ is (take x) }

pub rolled_told : {S X : Type 0} (spelled : X → List ℕ) (c : S → Codec X) (next : S → X → S) (s : S) (n : ℕ) → ((s : S) → IsTold (c s)) → ((s : S) (x : X) → (c s).bytes x ≡ spelled x) → IsTold (rolled spelled c next s n)
rolled_told spelled c next s n l same = record {
  lawful = laws.rolled_lawful spelled c next s n (λ s. (l s).lawful) same;
  ordered = record { before = places.rolled_before c next (λ s. (l s).lawful) (λ s. (l s).ordered) s n };
}

pub counted_told : {S X : Type 0} (low high : ℕ) (spelled : X → List ℕ) (c : S → Codec X) (next : S → X → S) (s : S) → ((s : S) → IsTold (c s)) → ((s : S) (x : X) → (c s).bytes x ≡ spelled x) → IsTold (counted low high spelled c next s)
counted_told low high spelled c next s l same = record {
  lawful = numbers.counted_lawful low high spelled c next s (λ s. (l s).lawful) same;
  ordered = places.counted_ordered low high spelled c next s (λ s. (l s).lawful) (λ s. (l s).ordered);
}

pub list_told : {X : Type 0} (c : Codec X) → IsTold c → IsTold (list_of c)
list_told c l = counted_told 0 (2 ^ 64 - 1) c.bytes (λ (s : Unit {0}). c) (λ s x. s) tt (λ s. l) (λ s x. refl)

exact_err : (field : ℕ) (wanted bytes : List ℕ) (left : ℕ) → exact_read field wanted bytes ≡ Err left → (left ≡ 0) ⊎ (left ≡ field)
unfolding exact_read
exact_err field [] bytes left e = absurd cc
exact_err field (w ∷ wanted) [] left e = inl (sym (err_is (Unit {0} × List ℕ) 0 left e))
exact_err field (w ∷ wanted) (b ∷ bytes) left e = by_test (λ q. exact_err field wanted bytes left q) (eqb b w) refl
  where
    by_test : (exact_read field wanted bytes ≡ Err left → (left ≡ 0) ⊎ (left ≡ field)) → (t : Bool) → eqb b w ≡ t → (left ≡ 0) ⊎ (left ≡ field)
    by_test later true p = later (subst (λ t. cond t (exact_read field wanted bytes) (Err field) ≡ Err left) p e)
    by_test later false p = inr (sym (err_is (Unit {0} × List ℕ) field left (subst (λ t. cond t (exact_read field wanted bytes) (Err field) ≡ Err left) p e)))

exact_none : (field w : ℕ) (wanted : List ℕ) → exact_read field (w ∷ wanted) [] ≡ Err 0
unfolding exact_read
exact_none field w wanted = refl

pub exactly_told : (w : ℕ) (wanted : List ℕ) → IsTold (exactly (w ∷ wanted))
exactly_told w wanted = record {
  lawful = laws.exactly_lawful (w ∷ wanted);
  ordered = record {
    before = λ bytes left fits e.
        places.field_before (λ bs. exact_read (length bs) (w ∷ wanted) bs) bytes left (exact_none 0 w wanted) (exact_err (length bytes) (w ∷ wanted) bytes left e) e;
  };
}

take_front : (xs ys : List ℕ) → take (length xs) (xs ++ ys) ≡ xs
take_front [] ys = refl
take_front (x ∷ xs) ys = ap (λ zs. x ∷ zs) (take_front xs ys)

-- what stands before the first bad field of all of the bytes ends before a field or within one, or is a value
pub whole_before : {X : Type 0} (c : Codec X) → IsTold c → (bytes : List ℕ) (left : ℕ) → IsBytes bytes → whole_read c bytes ≡ Err left → (whole_read c (take (length bytes - left) bytes) ≡ Err 0) ⊎ ((x : X) × (whole_read c (take (length bytes - left) bytes) ≡ Ok x))
whole_before c t bytes left fits e = elim (bind_err (c.read bytes) (λ x. cond (eqb (length x.1) 0) (Ok x.0) (Err (length x.1))) left e) [
  | inl f ↦ let h = t.ordered.before bytes left fits f in inl (rw h.1 refl)
  | inr a ↦
      let rest : length a.0.1 ≡ left = (guard_err (eqb (length a.0.1) 0) (length a.0.1) left a.0.0 a.2).1 in
      let is = t.lawful.takes bytes a.0.0 a.0.1 fits a.1 in
      let size : length bytes - left ≡ length (c.bytes a.0.0) = omega (arith, rest, ap length is.0, length-append (c.bytes a.0.0) a.0.1) in
      let front : take (length bytes - left) bytes ≡ c.bytes a.0.0 = ap (λ n. take n bytes) size ∙ ap (take (length (c.bytes a.0.0))) is.0 ∙ take_front (c.bytes a.0.0) a.0.1 in
      inr (a.0.0, ap (whole_read c) front ∙ laws.whole_again c t.lawful a.0.0 is.1)
]
