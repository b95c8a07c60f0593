-- Numbers are read as they are spelled.
use Rattle.std.proofs.Common.{◌≡◌, ℕ, zero, suc, ◌+◌, ◌*◌, ◌-◌, ◌/◌, ◌%◌, ◌^◌, ◌<◌, ◌≤◌, Bool, true, false, cond, ltb, eqb, List, [], ◌∷◌, ◌++◌, length, Ok, Err, refl, sym, ap, subst, ◌∙◌, arith, inl, inr, length-append, ◌⊎◌, ℤ, pos, negsuc}
use Rattle.std.proofs.lemmas.Bool.{cases_lt, ne_eqb, ltb-false, ltb-true, le-ltb, lt-ltb, eqb-true, eqb-false}
use Rattle.pearl_fields.specs.Codec.{◌>>=◌, Codec, digits, number_bytes, more_read, number_read, number, room, IsBytes, IsLawful}
use Rattle.pearl_fields.specs.Codec.{number_in, number_in_read, signed_in, signed_read, counted, list_of, rolled, pair, shaped, within, within_signed, zigzag, unzigzag}
use Rattle.pearl_fields.proofs.Laws.{guarded_lawful, shaped_lawful, pair_lawful, rolled_lawful, bind_ok, bind_err, bad, ok_is, guard_ok, guard_err}

-- a test and what follows from it
pub chosen : {A : Type 0} (b : Bool) (x y z : A) → cond b x y ≡ z → ((b ≡ true) × (x ≡ z)) ⊎ ((b ≡ false) × (y ≡ z))
chosen true x y z e = inl (refl, e)
chosen false x y z e = inr (refl, e)

pub digits_more : (k b high : ℕ) → 128 ≤ b → b < 256 → 0 < high → digits (suc k) (b % 128 + 128 * high) ≡ b ∷ digits k high
unfolding digits
digits_more k b high low below some =
    let x = b % 128 + 128 * high in
    let big : ltb x 128 ≡ false = le-ltb _ _ (omega arith) in
    let rest : x % 128 ≡ b % 128 = omega arith in
    let front : x / 128 ≡ high = omega arith in
    rw (big, rest, front) (ap (λ c. c ∷ digits k high) (omega arith))

pub digits_long : (k n : ℕ) → 128 ≤ n → digits (suc k) n ≡ (n % 128 + 128) ∷ digits k (n / 128)
unfolding digits
digits_long k n big = rw (le-ltb n 128 big) refl

pub digits_last : (k b : ℕ) → b < 128 → digits k b ≡ b ∷ []
unfolding digits
digits_last zero b lt = refl
digits_last (suc k) b lt = rw (lt-ltb b 128 lt) refl

ne_zero : (x : ℕ) → 0 < x → eqb x 0 ≡ false
ne_zero x some = ne_eqb x 0 (λ e. absurd (omega (arith, e, some)))

last_ok : (b : ℕ) (d : ℕ) (x y : ℕ × List ℕ) → cond (eqb b 0) (Err d) (Ok x) ≡ Ok y → (0 < b) × (x ≡ y)
last_ok zero d x y e = absurd cc
last_ok (suc b) d x y e = (omega arith, ok_is x y (subst (λ t. cond t (Err d) (Ok x) ≡ Ok y) (ne_zero (suc b) (omega arith)) e))

err_ok : (d : ℕ) (x y : ℕ × List ℕ) → bad (ℕ × List ℕ) d ≡ Ok y → ⊥
err_ok d x y e = cc

pub last_err : (b : ℕ) (d e : ℕ) (x : ℕ × List ℕ) → cond (eqb b 0) (Err d) (Ok x) ≡ Err e → (eqb b 0 ≡ true) × (d ≡ e)
last_err zero d e x h = (refl, cc)
last_err (suc b) d e x h = absurd (let f : cond false (bad (ℕ × List ℕ) d) (Ok x) ≡ Err e = subst (λ t. cond t (Err d) (Ok x) ≡ Err e) (ne_zero (suc b) (omega arith)) h in cc)

pub room_some : (k : ℕ) → 2 ≤ room k
room_some zero = omega arith
room_some (suc k) = omega (arith, room_some k)

more_takes : (field k : ℕ) (bytes : List ℕ) (x : ℕ) (rest : List ℕ) → IsBytes bytes → more_read field k bytes ≡ Ok (x, rest) → (bytes ≡ digits k x ++ rest) × (0 < x) × (x < room k)
unfolding more_read digits
more_takes field k [] x rest fits e = absurd cc
more_takes field zero (b ∷ bs) x rest fits e =
    let g = guard_ok (eqb b 1) field (1, bs) (x, rest) e in
    let one : b ≡ 1 = eqb-true b 1 g.0 in
    subst (λ (p : ℕ × List ℕ). (b ∷ bs ≡ p.0 ∷ p.1) × (0 < p.0) × (p.0 < 2)) g.1 (ap (λ c. c ∷ bs) one, omega arith, omega arith)
more_takes field (suc k) (b ∷ bs) x rest fits e = elim (chosen (ltb b 128) (cond (eqb b 0) (Err field) (Ok (b, bs))) (more_read field k bs >>= λ high. Ok (b % 128 + 128 * high.0, high.1)) (Ok (x, rest)) e) [
  | inl p ↦
      let small : b < 128 = ltb-true b 128 p.0 in
      let g = last_ok b field (b, bs) (x, rest) p.1 in
      subst (λ (q : ℕ × List ℕ). (b ∷ bs ≡ digits (suc k) q.0 ++ q.1) × (0 < q.0) × (q.0 < room (suc k))) g.1
      (rw (digits_last (suc k) b small) refl, g.0, omega (arith, room_some k))
  | inr p ↦
      let big : 128 ≤ b = ltb-false b 128 p.0 in
      let h = bind_ok (more_read field k bs) (λ high. Ok (b % 128 + 128 * high.0, high.1)) (x, rest) p.1 in
      let t = more_takes field k bs h.0.0 h.0.1 (λ i. fits (suc i)) h.1 in
      subst (λ (q : ℕ × List ℕ). (b ∷ bs ≡ digits (suc k) q.0 ++ q.1) × (0 < q.0) × (q.0 < room (suc k))) (ok_is (b % 128 + 128 * h.0.0, h.0.1) (x, rest) h.2)
      (rw (digits_more k b h.0.0 big (fits 0) t.1) (ap (λ c. b ∷ c) t.0), omega (arith, t.1), omega (arith, t.2, fits 0))
]

more_again : (field k x : ℕ) (rest : List ℕ) → 0 < x → x < room k → more_read field k (digits k x ++ rest) ≡ Ok (x, rest)
unfolding more_read digits
more_again field zero x rest some few = let one : x ≡ 1 = omega arith in rw one refl
more_again field (suc k) x rest some few = elim (cases_lt x 128) [
  | inl small ↦ rw (digits_last (suc k) x small, lt-ltb x 128 small, ne_zero x some) refl
  | inr big ↦
      let split : digits (suc k) x ≡ (x % 128 + 128) ∷ digits k (x / 128) = rw (le-ltb x 128 big) refl in
      let over : ltb (x % 128 + 128) 128 ≡ false = le-ltb _ _ (omega arith) in
      rw (split, over, more_again field k (x / 128) rest (omega arith) (omega arith)) (ap (λ y. Ok (y, rest)) (omega arith))
]

-- a bad number is one whatever follows, and wherever it is said to begin
more_stays : (field other k : ℕ) (bytes more : List ℕ) (left : ℕ) → more_read field k bytes ≡ Err (suc left) → (field ≡ suc left) × (more_read other k (bytes ++ more) ≡ Err other)
unfolding more_read
more_stays field other k [] more left e = absurd cc
more_stays field other zero (b ∷ bs) more left e =
    let g = guard_err (eqb b 1) field (suc left) (1, bs) e in (g.1, rw g.0 refl)
more_stays field other (suc k) (b ∷ bs) more left e = elim (chosen (ltb b 128) (cond (eqb b 0) (Err field) (Ok (b, bs))) (more_read field k bs >>= λ high. Ok (b % 128 + 128 * high.0, high.1)) (Err (suc left)) e) [
  | inl p ↦ let g = last_err b field (suc left) (b, bs) p.1 in (g.1, rw (p.0, g.0) refl)
  | inr p ↦ elim (bind_err (more_read field k bs) (λ high. Ok (b % 128 + 128 * high.0, high.1)) (suc left) p.1) [
    | inl f ↦ let m = more_stays field other k bs more left f in (m.0, rw (p.0, m.1) refl)
    | inr h ↦ absurd (let f = h.2 in cc)
  ]
]

pub number_spelled : (n : ℕ) → n < 2 ^ 64 → number_bytes n ≡ digits 9 n
unfolding number_bytes
number_spelled n few = rw (lt-ltb n (2 ^ 64) few) refl

-- a number with bytes is below 2 ^ 64
pub number_in_bytes : (n : ℕ) → IsBytes (number_bytes n) → n < 2 ^ 64
unfolding number_bytes
number_in_bytes n are = elim (cases_lt n (2 ^ 64)) [
  | inl few ↦ few
  | inr many ↦
      let none : number_bytes n ≡ 256 ∷ [] = rw (le-ltb n (2 ^ 64) many) refl in
      let here : 256 < 256 = subst IsBytes none are 0 in
      omega (arith, here)
]

digits_takes : (bytes : List ℕ) (x : ℕ) (rest : List ℕ) → IsBytes bytes → number_read bytes ≡ Ok (x, rest) → (bytes ≡ digits 9 x ++ rest) × (x < 2 ^ 64)
unfolding number_read digits
digits_takes [] x rest fits e = absurd cc
digits_takes (b ∷ bs) x rest fits e = elim (chosen (ltb b 128) (Ok (b, bs)) (more_read (suc (length bs)) 8 bs >>= λ high. Ok (b % 128 + 128 * high.0, high.1)) (Ok (x, rest)) e) [
  | inl p ↦
      let small : b < 128 = ltb-true b 128 p.0 in
      subst (λ (q : ℕ × List ℕ). (b ∷ bs ≡ digits 9 q.0 ++ q.1) × (q.0 < 2 ^ 64)) (ok_is (b, bs) (x, rest) p.1) (rw (digits_last 9 b small) refl, omega arith)
  | inr p ↦
      let big : 128 ≤ b = ltb-false b 128 p.0 in
      let h = bind_ok (more_read (suc (length bs)) 8 bs) (λ high. Ok (b % 128 + 128 * high.0, high.1)) (x, rest) p.1 in
      let t = more_takes (suc (length bs)) 8 bs h.0.0 h.0.1 (λ i. fits (suc i)) h.1 in
      let high : h.0.0 < 2 ^ 57 = t.2 in
      subst (λ (q : ℕ × List ℕ). (b ∷ bs ≡ digits 9 q.0 ++ q.1) × (q.0 < 2 ^ 64)) (ok_is (b % 128 + 128 * h.0.0, h.0.1) (x, rest) h.2)
      (rw (digits_more 8 b h.0.0 big (fits 0) t.1) (ap (λ c. b ∷ c) t.0), omega (arith, high, fits 0))
]

number_takes : (bytes : List ℕ) (x : ℕ) (rest : List ℕ) → IsBytes bytes → number_read bytes ≡ Ok (x, rest) → (bytes ≡ number_bytes x ++ rest) × (x < 2 ^ 64)
number_takes bytes x rest fits e = let t = digits_takes bytes x rest fits e in (t.0 ∙ ap (λ ds. ds ++ rest) (sym (number_spelled x t.1)), t.1)

digits_again : (x : ℕ) (rest : List ℕ) → x < 2 ^ 64 → number_read (digits 9 x ++ rest) ≡ Ok (x, rest)
unfolding number_read digits
digits_again x rest few = elim (cases_lt x 128) [
  | inl small ↦ rw (digits_last 9 x small, lt-ltb x 128 small) refl
  | inr big ↦
      let split : digits 9 x ≡ (x % 128 + 128) ∷ digits 8 (x / 128) = rw (le-ltb x 128 big) refl in
      let over : ltb (x % 128 + 128) 128 ≡ false = le-ltb _ _ (omega arith) in
      let high : x / 128 < room 8 = omega arith in
      rw (split, over, more_again (suc (length (digits 8 (x / 128) ++ rest))) 8 (x / 128) rest (omega arith) high) (ap (λ y. Ok (y, rest)) (omega arith))
]

number_again : (x : ℕ) (rest : List ℕ) → x < 2 ^ 64 → number_read (number_bytes x ++ rest) ≡ Ok (x, rest)
number_again x rest few = rw (number_spelled x few) (digits_again x rest few)

number_stays : (bytes more : List ℕ) (left : ℕ) → number_read bytes ≡ Err (suc left) → number_read (bytes ++ more) ≡ Err (suc left + length more)
unfolding number_read
number_stays [] more left e = absurd cc
number_stays (b ∷ bs) more left e = elim (chosen (ltb b 128) (Ok (b, bs)) (more_read (suc (length bs)) 8 bs >>= λ high. Ok (b % 128 + 128 * high.0, high.1)) (Err (suc left)) e) [
  | inl p ↦ absurd (let f = p.1 in cc)
  | inr p ↦ elim (bind_err (more_read (suc (length bs)) 8 bs) (λ high. Ok (b % 128 + 128 * high.0, high.1)) (suc left) p.1) [
    | inl f ↦
        let m = more_stays (suc (length bs)) (suc (length (bs ++ more))) 8 bs more left f in
        rw (p.0, m.1) (ap Err (omega (arith, length-append bs more, m.0)))
    | inr h ↦ absurd (let f = h.2 in cc)
  ]
]

pub number_lawful : IsLawful number
number_lawful = record { takes = number_takes; again = number_again; stays = λ bytes more left fits e. number_stays bytes more left e }

digits_some : (x : ℕ) → 0 < length (digits 9 x)
unfolding digits
digits_some x = elim (cases_lt x 128) [
  | inl small ↦ rw (lt-ltb x 128 small) (omega arith)
  | inr big ↦ rw (le-ltb x 128 big) (omega arith)
]

pub number_some : (x : ℕ) → 0 < length (number_bytes x)
unfolding number_bytes
number_some x = elim (cases_lt x (2 ^ 64)) [
  | inl few ↦ rw (lt-ltb x (2 ^ 64) few) (digits_some x)
  | inr many ↦ rw (le-ltb x (2 ^ 64) many) (omega arith)
]

pub room_grows : (k : ℕ) → k ≤ 8 → room k ≤ 2 ^ 57
room_grows k few = room_below k (8 - k) (omega (arith, few))
  where
    room_below : (k more : ℕ) → k + more ≡ 8 → room k ≤ 2 ^ 57
    room_below k zero e = let same : k ≡ 8 = omega (arith, e) in rw same (omega arith)
    room_below k (suc more) e = omega (arith, room_below (suc k) more (omega (arith, e)))

pub room_step : (k : ℕ) → (k ≡ 0 → ⊥) → 128 * room (k - 1) ≡ room k
room_step zero some = absurd (some refl)
room_step (suc k) some = let same : suc k - 1 ≡ k = omega arith in rw same refl

pub digits_step : (k n : ℕ) → n < room k → 128 ≤ n → digits k n ≡ (n % 128 + 128) ∷ digits (k - 1) (n / 128)
unfolding digits
digits_step zero n few big = absurd (omega (arith, few, big))
digits_step (suc k) n few big = let same : suc k - 1 ≡ k = omega arith in rw (same, le-ltb n 128 big) refl

odd_back : (n : ℕ) → n % 2 ≡ 0 → 2 * (n / 2) ≡ n
odd_back n e = omega (arith, e)

pub zigzag_back : (n : ℕ) → zigzag (unzigzag n) ≡ n
zigzag_back n = by_parity (eqb (n % 2) 0) refl
  where
    by_parity : (b : Bool) → eqb (n % 2) 0 ≡ b → zigzag (unzigzag n) ≡ n
    by_parity true e = rw e (omega (arith, eqb-true (n % 2) 0 e))
    by_parity false e = let odd : n % 2 ≡ 1 = omega (arith, eqb-false (n % 2) 0 e) in rw e (omega (arith, odd))

pub zigzag_again : (n : ℤ) → unzigzag (zigzag n) ≡ n
zigzag_again (pos n) = let even : (2 * n) % 2 ≡ 0 = omega arith in let half : (2 * n) / 2 ≡ n = omega arith in rw (even, half) refl
zigzag_again (negsuc n) = let odd : (2 * n + 1) % 2 ≡ 1 = omega arith in let half : (2 * n + 1) / 2 ≡ n = omega arith in rw (odd, half) refl

pub number_in_lawful : (low high : ℕ) → IsLawful (number_in low high)
unfolding number_in_read
number_in_lawful low high = let l = guarded_lawful (within low high) number number_lawful (λ x h. number_some x) in record { takes = l.takes; again = l.again; stays = l.stays }

pub signed_in_lawful : (low high : ℤ) → IsLawful (signed_in low high)
unfolding signed_read
signed_in_lawful low high =
    let l = guarded_lawful (within_signed low high) (shaped zigzag unzigzag number) (shaped_lawful zigzag unzigzag number number_lawful (λ a fits. zigzag_back a)) (λ x h. number_some (zigzag x)) in
    record { takes = l.takes; again = l.again; stays = l.stays }

pub counted_lawful : {S X : Type 0} (low high : ℕ) (spelled : X → List ℕ) (c : S → Codec X) (next : S → X → S) (s : S) → ((s : S) → IsLawful (c s)) → ((s : S) (x : X) → (c s).bytes x ≡ spelled x) → IsLawful (counted low high spelled c next s)
counted_lawful low high spelled c next s l same =
    shaped_lawful (λ xs. (length xs, xs)) (λ p. p.1) (pair (number_in low high) (λ n. rolled spelled c next s n))
    (pair_lawful (number_in low high) (λ n. rolled spelled c next s n) (number_in_lawful low high) (λ n. rolled_lawful spelled c next s n l same))
    (λ p fits. ap (λ n. (n, p.1)) fits.1.0)

pub list_lawful : {X : Type 0} (c : Codec X) → IsLawful c → IsLawful (list_of c)
list_lawful c l = counted_lawful 0 (2 ^ 64 - 1) c.bytes (λ (s : Unit {0}). c) (λ s x. s) tt (λ s. l) (λ s x. refl)
