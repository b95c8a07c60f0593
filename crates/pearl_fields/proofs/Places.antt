-- The bytes before a bad field are read without a fault, up to their end.
use Rattle.std.proofs.Common.{◌≡◌, ℕ, zero, suc, ◌+◌, ◌-◌, ◌≤◌, Bool, cond, ltb, eqb, ◌%◌, ◌*◌, ℤ, List, [], ◌∷◌, ◌++◌, length, take, Ok, Err, refl, sym, ap, ◌∙◌, arith, inl, inr, length-append, ◌⊎◌}
use Rattle.std.proofs.lemmas.List.{take_all}
use Rattle.pearl_fields.specs.Codec.{◌>>=◌, Seen, Codec, byte, byte_read, guarded, pair, nothing, never, shaped, keyed, rolled, rolled_read, counted, number, number_in, number_in_read, signed_in, signed_read, within, within_signed, zigzag, unzigzag, more_read, number_read, IsBytes, IsLawful, IsOrdered}
use Rattle.pearl_fields.proofs.Numbers.{chosen, last_err, number_in_lawful}
use Rattle.pearl_fields.proofs.Laws.{bind_err, err_is, guard_err, rest_bytes}

take_none : (bytes : List ℕ) (n : ℕ) → n ≡ 0 → take n bytes ≡ []
take_none bytes n e = rw e refl

take_over : (xs ys : List ℕ) (left : ℕ) → left ≤ length ys → take (length (xs ++ ys) - left) (xs ++ ys) ≡ xs ++ take (length ys - left) ys
take_over [] ys left le = refl
take_over (x ∷ xs) ys left le =
    let more : suc (length (xs ++ ys)) - left ≡ suc (length (xs ++ ys) - left) = omega (arith, le, length-append xs ys) in
    rw more (ap (λ bs. x ∷ bs) (take_over xs ys left le))

byte_before : (ok : ℕ → Bool) (bytes : List ℕ) (left : ℕ) → byte_read ok bytes ≡ Err left → (left ≤ length bytes) × (byte_read ok (take (length bytes - left) bytes) ≡ Err 0)
byte_before ok [] left e = let z : 0 ≡ left = err_is (ℕ × List ℕ) 0 left e in (omega (arith, z), ap (byte_read ok) (take_none [] (0 - left) (omega arith)))
byte_before ok (b ∷ bs) left e =
    let g = guard_err (ok b) (suc (length bs)) left (b, bs) e in
    (omega (arith, g.1), ap (byte_read ok) (take_none (b ∷ bs) (suc (length bs) - left) (omega (arith, g.1))))

pub byte_ordered : (ok : ℕ → Bool) → IsOrdered (byte ok)
byte_ordered ok = record { before = λ bytes left fits e. byte_before ok bytes left e }

pub pair_ordered : {X Y : Type 0} (c : Codec X) (d : X → Codec Y) → IsLawful c → IsOrdered c → ((x : X) → IsOrdered (d x)) → IsOrdered (pair c d)
pair_ordered c d l o p = record {
  before = λ bytes left fits e. elim (bind_err (c.read bytes) (λ x. (d x.0).read x.1 >>= λ y. Ok ((x.0, y.0), y.1)) left e) [
    | inl f ↦ let h = o.before bytes left fits f in (h.0, rw h.1 refl)
    | inr a ↦ elim (bind_err ((d a.0.0).read a.0.1) (λ y. Ok ((a.0.0, y.0), y.1)) left a.2) [
      | inl f ↦
          let h = (p a.0.0).before a.0.1 left (rest_bytes c l bytes a.0.0 a.0.1 fits a.1) f in
          let t = l.takes bytes a.0.0 a.0.1 fits a.1 in
          let front : take (length bytes - left) bytes ≡ c.bytes a.0.0 ++ take (length a.0.1 - left) a.0.1 = rw t.0 (take_over (c.bytes a.0.0) a.0.1 left h.0) in
          (omega (arith, h.0, ap length t.0, length-append (c.bytes a.0.0) a.0.1), rw (front, l.again a.0.0 (take (length a.0.1 - left) a.0.1) t.1, h.1) refl)
      | inr b ↦ absurd (let h = b.2 in cc)
    ]
  ];
}

pub nothing_ordered : {X : Type 0} (x : X) → IsOrdered (nothing x)
nothing_ordered x = record { before = λ bytes left fits e. absurd cc }

pub shaped_ordered : {A X : Type 0} (split : X → A) (make : A → X) (c : Codec A) → IsOrdered c → IsOrdered (shaped split make c)
shaped_ordered split make c o = record {
  before = λ bytes left fits e. elim (bind_err (c.read bytes) (λ a. Ok (make a.0, a.1)) left e) [
    | inl f ↦ let h = o.before bytes left fits f in (h.0, rw h.1 refl)
    | inr a ↦ absurd (let h = a.2 in cc)
  ];
}

pub keyed_ordered : {K X : Type 0} (key : X → K) (k : Codec K) (arm : K → Codec X) → IsLawful k → IsOrdered k → ((t : K) → IsOrdered (arm t)) → IsOrdered (keyed key k arm)
keyed_ordered key k arm l o p = record {
  before = λ bytes left fits e. elim (bind_err (k.read bytes) (λ t. (arm t.0).read t.1) left e) [
    | inl f ↦ let h = o.before bytes left fits f in (h.0, rw h.1 refl)
    | inr a ↦
        let h = (p a.0.0).before a.0.1 left (rest_bytes k l bytes a.0.0 a.0.1 fits a.1) a.2 in
        let t = l.takes bytes a.0.0 a.0.1 fits a.1 in
        let front : take (length bytes - left) bytes ≡ k.bytes a.0.0 ++ take (length a.0.1 - left) a.0.1 = rw t.0 (take_over (k.bytes a.0.0) a.0.1 left h.0) in
        (omega (arith, h.0, ap length t.0, length-append (k.bytes a.0.0) a.0.1), rw (front, l.again a.0.0 (take (length a.0.1 - left) a.0.1) t.1) h.1)
  ];
}

-- a test that fails is blamed on the part's first byte, and nothing is cut off before it
pub guarded_ordered : {X : Type 0} (ok : X → Bool) (c : Codec X) → IsOrdered c → c.read [] ≡ Err 0 → IsOrdered (guarded ok c)
guarded_ordered ok c o empty = record {
  before = λ bytes left fits e. elim (bind_err (c.read bytes) (λ x. cond (ok x.0) (Ok x) (Err (length bytes))) left e) [
    | inl f ↦ let h = o.before bytes left fits f in (h.0, rw h.1 refl)
    | inr a ↦
        let g = guard_err (ok a.0.0) (length bytes) left a.0 a.2 in
        let cut : take (length bytes - left) bytes ≡ [] = take_none bytes (length bytes - left) (omega (arith, g.1)) in
        (omega (arith, g.1), rw (cut, empty) refl)
  ];
}

more_err : (field k : ℕ) (bytes : List ℕ) (left : ℕ) → more_read field k bytes ≡ Err left → (left ≡ 0) ⊎ (left ≡ field)
unfolding more_read
more_err field k [] left e = inl (sym (err_is (ℕ × List ℕ) 0 left e))
more_err field zero (b ∷ bs) left e = inr (sym (guard_err (eqb b 1) field left (1, bs) e).1)
more_err field (suc k) (b ∷ bs) left e = elim (chosen (ltb b 128) (cond (eqb b 0) (Err field) (Ok (b, bs))) (more_read field k bs >>= λ high. Ok (b % 128 + 128 * high.0, high.1)) (Err left) e) [
  | inl p ↦ inr (sym (last_err b field left (b, bs) p.1).1)
  | inr p ↦ elim (bind_err (more_read field k bs) (λ high. Ok (b % 128 + 128 * high.0, high.1)) left p.1) [
    | inl f ↦ more_err field k bs left f
    | inr h ↦ absurd (let f = h.2 in cc)
  ]
]

number_err : (bytes : List ℕ) (left : ℕ) → number_read bytes ≡ Err left → (left ≡ 0) ⊎ (left ≡ length bytes)
unfolding number_read
number_err [] left e = inl (sym (err_is (ℕ × List ℕ) 0 left e))
number_err (b ∷ bs) left e = elim (chosen (ltb b 128) (Ok (b, bs)) (more_read (suc (length bs)) 8 bs >>= λ high. Ok (b % 128 + 128 * high.0, high.1)) (Err left) e) [
  | inl p ↦ absurd (let f = p.1 in cc)
  | inr p ↦ elim (bind_err (more_read (suc (length bs)) 8 bs) (λ high. Ok (b % 128 + 128 * high.0, high.1)) left p.1) [
    | inl f ↦ more_err (suc (length bs)) 8 bs left f
    | inr h ↦ absurd (let f = h.2 in cc)
  ]
]

number_none : number_read [] ≡ Err 0
unfolding number_read
number_none = refl

-- a field that is cut, or that is bad from its first byte on
pub field_before : {X : Type 0} (read : List ℕ → Seen X) (bytes : List ℕ) (left : ℕ) → read [] ≡ Err 0 → (left ≡ 0) ⊎ (left ≡ length bytes) → read bytes ≡ Err left → (left ≤ length bytes) × (read (take (length bytes - left) bytes) ≡ Err 0)
field_before read bytes left empty (inl z) e = (omega (arith, z), ap read (take_all (length bytes - left) bytes (omega (arith, z))) ∙ e ∙ ap Err z)
field_before read bytes left empty (inr w) e = (omega (arith, w), ap read (take_none bytes (length bytes - left) (omega (arith, w))) ∙ empty)

pub number_ordered : IsOrdered number
number_ordered = record { before = λ bytes left fits e. field_before number_read bytes left number_none (number_err bytes left e) e }

pub number_in_ordered : (low high : ℕ) → IsOrdered (number_in low high)
unfolding number_in_read
number_in_ordered low high = let o = guarded_ordered (within low high) number number_ordered number_none in record { before = o.before }

pub signed_in_ordered : (low high : ℤ) → IsOrdered (signed_in low high)
unfolding signed_read
signed_in_ordered low high = let o = guarded_ordered (within_signed low high) (shaped zigzag unzigzag number) (shaped_ordered zigzag unzigzag number number_ordered) (rw number_none refl) in record { before = o.before }

module _ {S X : Type 0} (c : S → Codec X) (next : S → X → S) (l : (s : S) → IsLawful (c s)) (o : (s : S) → IsOrdered (c s)) where
  pub rolled_before : (s : S) (n : ℕ) (bytes : List ℕ) (left : ℕ) → IsBytes bytes → rolled_read c next s n bytes ≡ Err left → (left ≤ length bytes) × (rolled_read c next s n (take (length bytes - left) bytes) ≡ Err 0)
  unfolding rolled_read
  rolled_before s zero bytes left fits e = absurd cc
  rolled_before s (suc n) bytes left fits e = elim (bind_err ((c s).read bytes) (λ x. rolled_read c next (next s x.0) n x.1 >>= λ xs. Ok (x.0 ∷ xs.0, xs.1)) left e) [
    | inl f ↦ let h = (o s).before bytes left fits f in (h.0, rw h.1 refl)
    | inr a ↦ elim (bind_err (rolled_read c next (next s a.0.0) n a.0.1) (λ xs. Ok (a.0.0 ∷ xs.0, xs.1)) left a.2) [
      | inl f ↦
          let h = rolled_before (next s a.0.0) n a.0.1 left (rest_bytes (c s) (l s) bytes a.0.0 a.0.1 fits a.1) f in
          let t = (l s).takes bytes a.0.0 a.0.1 fits a.1 in
          let front : take (length bytes - left) bytes ≡ (c s).bytes a.0.0 ++ take (length a.0.1 - left) a.0.1 = rw t.0 (take_over ((c s).bytes a.0.0) a.0.1 left h.0) in
          (omega (arith, h.0, ap length t.0, length-append ((c s).bytes a.0.0) a.0.1), rw (front, (l s).again a.0.0 (take (length a.0.1 - left) a.0.1) t.1, h.1) refl)
      | inr b ↦ absurd (let h = b.2 in cc)
    ]
  ]

pub counted_ordered : {S X : Type 0} (low high : ℕ) (spelled : X → List ℕ) (c : S → Codec X) (next : S → X → S) (s : S) → ((s : S) → IsLawful (c s)) → ((s : S) → IsOrdered (c s)) → IsOrdered (counted low high spelled c next s)
counted_ordered low high spelled c next s l o =
    shaped_ordered (λ xs. (length xs, xs)) (λ p. p.1) (pair (number_in low high) (λ n. rolled spelled c next s n))
    (pair_ordered (number_in low high) (λ n. rolled spelled c next s n) (number_in_lawful low high) (number_in_ordered low high) (λ n. record { before = rolled_before c next l o s n }))

pub never_ordered : (X : Type 0) → IsOrdered (never {X = X})
never_ordered X = record { before = λ bytes left fits e. let z : 0 ≡ left = err_is (X × List ℕ) 0 left e in (omega (arith, z), refl) }
