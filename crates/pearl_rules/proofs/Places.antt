-- What lists hold, and what stands at a place that is written.
use Rattle.std.proofs.Common.{◌≡◌, ◌≢◌, ℕ, zero, suc, ◌<◌, ◌⊎◌, inl, inr, List, [], ◌∷◌, false, nat_eq, Some, length, slice_get, slice_set, refl, sym, ap, subst, arith}
use Rattle.std.specs.List.{AllByRecursion, Contains}
use Rattle.std.proofs.lemmas.Bool.{eqb-false}
use Rattle.std.proofs.lemmas.Option.{none-some, same_Some}

-- the first of a list
pub here : {X : Type 0} (x : X) (xs : List X) → Contains (x ∷ xs) x
here x xs = (zero, omega arith, refl)

-- a later one
pub there : {X : Type 0} (x y : X) (xs : List X) → Contains xs y → Contains (x ∷ xs) y
there x y xs (k, inside, is) = (suc k, omega (arith, inside), is)

-- each is one of these
pub where_is : {X : Type 0} (x y : X) (xs : List X) → Contains (x ∷ xs) y → (x ≡ y) ⊎ Contains xs y
where_is x y xs (zero, inside, is) = inl is
where_is x y xs (suc k, inside, is) = inr (k, omega (arith, inside), is)

-- nothing is in an empty list
pub no_member : {X : Type 0} (x : X) → Contains [] x → ⊥
no_member x (k, inside, is) = omega (arith, inside)

-- a list of one
pub alone : {X : Type 0} (x y : X) → y ≡ x → Contains (x ∷ []) y
alone x y same = (zero, omega arith, sym same)

pub only_member : {X : Type 0} (x y : X) → Contains (x ∷ []) y → y ≡ x
only_member x y inside = by_place (where_is x y [] inside)
  where
    by_place : (x ≡ y) ⊎ Contains [] y → y ≡ x
    by_place (inl same) = sym same
    by_place (inr later) = absurd (no_member y later)

-- what holds of all holds of each
pub each : {X : Type 0} (P : X → Type 0) (xs : List X) → AllByRecursion P xs → (x : X) → Contains xs x → P x
each P [] all x inside = absurd (no_member x inside)
each P (first ∷ xs) all x inside = by_place (where_is first x xs inside) (λ later. each P xs all.1 x later)
  where
    by_place : (first ≡ x) ⊎ Contains xs x → (Contains xs x → P x) → P x
    by_place (inl same) rest = subst P same all.0
    by_place (inr later) rest = rest later

-- the same of each that stands at a place
pub each_at : {X : Type 0} (P : X → Type 0) (xs : List X) → AllByRecursion P xs → (i : ℕ) (x : X) → slice_get xs i ≡ Some x → P x
each_at P [] all i x e = absurd (none-some x e)
each_at P (first ∷ xs) all zero x e = subst P (same_Some first x e) all.0
each_at P (first ∷ xs) all (suc i) x e = each_at P xs all.1 i x e

-- it still holds where one of which it holds is written
pub all_set : {X : Type 0} (P : X → Type 0) (xs : List X) → AllByRecursion P xs → (i : ℕ) (x : X) → P x → AllByRecursion P (slice_set xs i x)
all_set P [] all i x holds = tt
all_set P (first ∷ xs) all zero x holds = (holds, all.1)
all_set P (first ∷ xs) all (suc i) x holds = (all.0, all_set P xs all.1 i x holds)

-- the first of a list without doubles isn't in the rest
pub first_once : (n : ℕ) (ns : List ℕ) → AllByRecursion (λ m. nat_eq n m ≡ false) ns → Contains ns n → ⊥
first_once n ns differ inside = eqb-false n n (each (λ m. nat_eq n m ≡ false) ns differ n inside) refl

-- a place that is there and is written
pub set-same : {X : Type 0} (xs : List X) (i : ℕ) (old x : X) → slice_get xs i ≡ Some old → slice_get (slice_set xs i x) i ≡ Some x
set-same [] i old x e = absurd (none-some old e)
set-same (first ∷ xs) zero old x e = refl
set-same (first ∷ xs) (suc i) old x e = set-same xs i old x e

-- another place
pub set-other : {X : Type 0} (xs : List X) (i j : ℕ) (x : X) → j ≢ i → slice_get (slice_set xs i x) j ≡ slice_get xs j
set-other [] i j x differ = refl
set-other (first ∷ xs) zero zero x differ = absurd (differ refl)
set-other (first ∷ xs) zero (suc j) x differ = refl
set-other (first ∷ xs) (suc i) zero x differ = refl
set-other (first ∷ xs) (suc i) (suc j) x differ = set-other xs i j x (λ same. differ (ap suc same))

-- a place below the length is there
pub there_at : {X : Type 0} (xs : List X) (i : ℕ) → i < length xs → (x : X) × (slice_get xs i ≡ Some x)
there_at [] i less = let no : ⊥ = omega arith in absurd no
there_at (first ∷ xs) zero less = (first, refl)
there_at (first ∷ xs) (suc i) less = there_at xs i (omega arith)
