-- Lists into which a thing is put at its place.
use Rattle.std.proofs.Common.{◌≡◌, ◌≢◌, ◌⊎◌, inl, inr, ⊎_elim, ℕ, zero, suc, ◌+◌, ◌-◌, ◌<◌, min, Some, List, [], ◌∷◌, ◌++◌, length, get_or, take, drop, refl, sym, ap, subst, ◌∙◌, arith}
use Rattle.std.proofs.lemmas.Bool.{cases_eq}
use Rattle.std.proofs.lemmas.List.{take-append-drop, length-drop, length-take, get_or-drop, get_or-take}
use Rattle.std.proofs.lemmas.Option.{slice_get-get_or, get_or_from_slice_get}
use Rattle.std.proofs.lemmas.List.Elements.{All-append, All-cons, All-drop, All-nil, All-take, All-weaker, Contains-append_left, Contains-append_right, Contains-append_cases}
use Rattle.std.proofs.lemmas.List.Kept.{AllPairs-cons}
use Rattle.std.specs.List.{All, AllPairs, Contains, insert}
use Rattle.pearl_system.specs.Rising.{IsLess, IsRising, Joins}

pub some_same : {X : Type 0} (x y : X) → Some x ≡ Some y → x ≡ y
some_same x y e = cc

pub pairs_head : {X : Type 0} (R : X → X → Type 0) (x : X) (xs : List X) → AllPairs R (x ∷ xs) → All (R x) xs
pairs_head R x xs pairs = λ k d below. pairs zero (suc k) d (omega arith) (omega arith)

pub pairs_tail : {X : Type 0} (R : X → X → Type 0) (x : X) (xs : List X) → AllPairs R (x ∷ xs) → AllPairs R xs
pairs_tail R x xs pairs = λ i j d before inside. pairs (suc i) (suc j) d (omega arith) (omega arith)

pub contains_here : {X : Type 0} (x : X) (xs : List X) → Contains (x ∷ xs) x
contains_here x xs = (zero, omega arith, refl)

pub contains_later : {X : Type 0} (x : X) (xs : List X) (z : X) → Contains xs z → Contains (x ∷ xs) z
contains_later x xs z (k, below, is) = (suc k, omega arith, is)

pub contains_cases : {X : Type 0} (x : X) (xs : List X) (z : X) → Contains (x ∷ xs) z → (z ≡ x) ⊎ Contains xs z
contains_cases x xs z (zero, below, is) = inl (sym is)
contains_cases x xs z (suc k, below, is) = inr (k, omega arith, is)

pub inserted_from : {X : Type 0} (xs : List X) (at : ℕ) (y z : X) → Contains (insert xs at y) z → Contains xs z ⊎ (z ≡ y)
inserted_from xs at y z found =
    let whole = λ (h : Contains (take at xs ++ drop at xs) z). subst (λ s. Contains s z) (take-append-drop at xs) h in
    ⊎_elim (λ h. inl (whole (Contains-append_left (take at xs) (drop at xs) z h)))
    (λ h. ⊎_elim (λ e. inr e) (λ g. inl (whole (Contains-append_right (take at xs) (drop at xs) z g))) (contains_cases y (drop at xs) z h))
    (Contains-append_cases (take at xs) (y ∷ drop at xs) z found)

pub inserted_old : {X : Type 0} (xs : List X) (at : ℕ) (y z : X) → Contains xs z → Contains (insert xs at y) z
inserted_old xs at y z found =
    ⊎_elim (λ h. Contains-append_left (take at xs) (y ∷ drop at xs) z h)
    (λ h. Contains-append_right (take at xs) (y ∷ drop at xs) z (contains_later y (drop at xs) z h))
    (Contains-append_cases (take at xs) (drop at xs) z (subst (λ s. Contains s z) (sym (take-append-drop at xs)) found))

pub inserted_new : {X : Type 0} (xs : List X) (at : ℕ) (y : X) → Contains (insert xs at y) y
inserted_new xs at y = Contains-append_right (take at xs) (y ∷ drop at xs) y (contains_here y (drop at xs))

pub less_apart : (a b : ℕ × ℕ) → IsLess a b → a ≢ b
less_apart a b less same =
    let first : a.0 ≡ b.0 = ap (λ p. p.0) same in
    let second : a.1 ≡ b.1 = ap (λ p. p.1) same in
    ⊎_elim (λ h. absurd (omega arith)) (λ h. let below : a.1 < b.1 = h.1 in absurd (omega arith)) less

pub less_trans : (a b c : ℕ × ℕ) → IsLess a b → IsLess b c → IsLess a c
less_trans a b c (inl h) (inl k) = inl (omega arith)
less_trans a b c (inl h) (inr k) = inl (omega arith)
less_trans a b c (inr h) (inl k) = inl (omega arith)
less_trans a b c (inr h) (inr k) = inr (omega arith, omega arith)

-- what stands before a key that is less than k is less than k
pub below_all : {X : Type 0} (key : X → ℕ × ℕ) (xs : List X) (at : ℕ) (k : ℕ × ℕ) (standing : X) → IsRising key xs → at < length xs
    → standing ≡ get_or xs at standing → IsLess (key standing) k → All (λ x. IsLess (key x) k) (take (at + 1) xs)
below_all key xs at k standing rising inside is less = λ i d within.
    let length_is : length (take (at + 1) xs) ≡ min (at + 1) (length xs) = length-take (at + 1) xs in
    let below : i < at + 1 = omega arith in
    let here : get_or xs at d ≡ standing = get_or_from_slice_get xs at standing d (slice_get-get_or xs at standing inside ∙ ap Some (sym is)) in
    let top : IsLess (key (get_or xs at d)) k = subst (λ x. IsLess (key x) k) (sym here) less in
    let all : IsLess (key (get_or xs i d)) k =
    ⊎_elim (λ (e : i ≡ at). subst (λ j. IsLess (key (get_or xs j d)) k) (sym e) top)
    (λ (apart : i ≢ at). less_trans (key (get_or xs i d)) (key (get_or xs at d)) k (rising i at d (omega arith) inside) top)
    (cases_eq i at) in
    subst (λ x. IsLess (key x) k) (sym (get_or-take (at + 1) xs i d below)) all

-- what stands from a key on that is greater than k is greater than k
pub above_all : {X : Type 0} (key : X → ℕ × ℕ) (xs : List X) (at : ℕ) (k : ℕ × ℕ) (standing : X) → IsRising key xs → at < length xs
    → standing ≡ get_or xs at standing → IsLess k (key standing) → All (λ x. IsLess k (key x)) (drop at xs)
above_all key xs at k standing rising inside is less = λ i d within.
    let length_is : length (drop at xs) ≡ length xs - at = length-drop at xs in
    let here : get_or xs at d ≡ standing = get_or_from_slice_get xs at standing d (slice_get-get_or xs at standing inside ∙ ap Some (sym is)) in
    let first : IsLess k (key (get_or xs at d)) = subst (λ x. IsLess k (key x)) (sym here) less in
    let all : IsLess k (key (get_or xs (at + i) d)) =
    ⊎_elim (λ (e : at + i ≡ at). subst (λ j. IsLess k (key (get_or xs j d))) (sym e) first)
    (λ (apart : at + i ≢ at). less_trans k (key (get_or xs at d)) (key (get_or xs (at + i) d)) first (rising at (at + i) d (omega arith) (omega arith)))
    (cases_eq (at + i) at) in
    subst (λ x. IsLess k (key x)) (sym (get_or-drop at xs i d)) all

pub joins_at : {X : Type 0} (key : X → ℕ × ℕ) (x : X) (xs : List X) (at : ℕ) → All (λ y. IsLess (key x) (key y)) (drop at xs)
    → All (λ y. IsLess (key y) (key x)) (take at xs) → Joins key x xs (insert xs at x)
joins_at {X} key x xs at above below =
    let Apart : X → Type 0 = λ y. key y ≢ key x in
    let front : All Apart (take at xs) = All-weaker (λ y. IsLess (key y) (key x)) Apart (λ y l. less_apart (key y) (key x) l) (take at xs) below in
    let back : All Apart (drop at xs) = All-weaker (λ y. IsLess (key x) (key y)) Apart (λ y l e. less_apart (key x) (key y) l (sym e)) (drop at xs) above in
    let fresh : All Apart xs = subst (λ s. All Apart s) (take-append-drop at xs) (All-append Apart (take at xs) (drop at xs) front back) in
    inr (fresh, λ y. (λ h. inserted_from xs at x y h, λ h. joined xs at x y h))
  where
    joined : {X : Type 0} (xs : List X) (at : ℕ) (x y : X) → Contains xs y ⊎ (y ≡ x) → Contains (insert xs at x) y
    joined xs at x y (inl old) = inserted_old xs at x y old
    joined xs at x y (inr e) = subst (λ z. Contains (insert xs at x) z) (sym e) (inserted_new xs at x)

-- a thing put at its place among what rises
pub rising_insert : {X : Type 0} (key : X → ℕ × ℕ) (x : X) (xs : List X) (at : ℕ) → IsRising key xs → All (λ y. IsLess (key x) (key y)) (drop at xs)
    → All (λ y. IsLess (key y) (key x)) (take at xs) → IsRising key (insert xs at x)
rising_insert {X} key x xs zero rising above below = AllPairs-cons (λ (y z : X). IsLess (key y) (key z)) x xs above rising
rising_insert {X} key x [] (suc at) rising above below =
    AllPairs-cons (λ (y z : X). IsLess (key y) (key z)) x [] (All-nil (λ y. IsLess (key x) (key y))) rising
rising_insert {X} key x (first ∷ xs) (suc at) rising above below =
    let Before : X → X → Type 0 = λ y z. IsLess (key y) (key z) in
    let later : All (Before first) xs = pairs_head Before first xs rising in
    let here : Before first x = below zero first (omega arith) in
    let head : All (Before first) (insert xs at x) =
    All-append (Before first) (take at xs) (x ∷ drop at xs) (All-take (Before first) at xs later)
    (All-cons (Before first) x (drop at xs) here (All-drop (Before first) at xs later)) in
    AllPairs-cons Before first (insert xs at x) head
    (rising_insert key x xs at (pairs_tail Before first xs rising) above (λ k d inside. below (suc k) d (omega arith)))

-- the same at a slice, a key and a new list that are these
pub joins_found : {X : Type 0} (key : X → ℕ × ℕ) (x : X) (xs slice new : List X) (at : ℕ) (k : ℕ × ℕ) → slice ≡ xs → k ≡ key x → new ≡ insert xs at x
    → All (λ y. IsLess k (key y)) (drop at slice) → All (λ y. IsLess (key y) k) (take at slice) → Joins key x xs new
joins_found key x xs slice new at k here is made above below =
    subst (λ s. Joins key x xs s) (sym made) (joins_at key x xs at
    (subst (λ s. All (λ y. IsLess (key x) (key y)) (drop at s)) here (subst (λ j. All (λ y. IsLess j (key y)) (drop at slice)) is above))
    (subst (λ s. All (λ y. IsLess (key y) (key x)) (take at s)) here (subst (λ j. All (λ y. IsLess (key y) j) (take at slice)) is below)))

pub rising_found : {X : Type 0} (key : X → ℕ × ℕ) (x : X) (xs slice new : List X) (at : ℕ) (k : ℕ × ℕ) → slice ≡ xs → k ≡ key x → new ≡ insert xs at x
    → IsRising key xs → All (λ y. IsLess k (key y)) (drop at slice) → All (λ y. IsLess (key y) k) (take at slice) → IsRising key new
rising_found key x xs slice new at k here is made rising above below =
    subst (λ s. IsRising key s) (sym made) (rising_insert key x xs at rising
    (subst (λ s. All (λ y. IsLess (key x) (key y)) (drop at s)) here (subst (λ j. All (λ y. IsLess j (key y)) (drop at slice)) is above))
    (subst (λ s. All (λ y. IsLess (key y) (key x)) (take at s)) here (subst (λ j. All (λ y. IsLess (key y) j) (take at slice)) is below)))
