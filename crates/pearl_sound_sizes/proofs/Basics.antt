-- Lists of which all elements have a property, the greatest of a list, and two lists of which the elements suit one by one.
use Rattle.std.specs.Prelude.{◌≡◌, ℕ, zero, suc, ◌≤◌, max, Bool, true, false, if◌then◌else◌, List, [], ◌∷◌, ◌++◌, length, filter, Some, slice_get}
use Rattle.std.specs.List.{AllByRecursion, AllZip}
use Rattle.std.proofs.Common.{refl, ap, subst, arith}
use Rattle.std.proofs.lemmas.Option.{none-some}
pub use Rattle.pearl_sound.proofs.Offered.{some_one, all_append, split_all, all_at, left_none, right_none, not_broken, really, both, neither, each_none}

pub all_as : {X : Type 0} (P Q : X → Type 0) → ((x : X) → P x → Q x) → (xs : List X) → AllByRecursion P xs → AllByRecursion Q xs
all_as P Q more [] all = tt
all_as P Q more (x ∷ xs) all = (more x all.0, all_as P Q more xs all.1)

pub all_filtered : {X : Type 0} (P : X → Type 0) (p : X → Bool) (xs : List X) → AllByRecursion P xs → AllByRecursion P (filter p xs)
all_filtered P p [] all = tt
all_filtered P p (x ∷ xs) all = by (p x) (all_filtered P p xs all.1)
  where
    by : (test : Bool) → AllByRecursion P (filter p xs) → AllByRecursion P (if test then x ∷ filter p xs else filter p xs)
    by true more = (all.0, more)
    by false more = more

-- the greatest of what the elements have
abbrev pub most : {X : Type 0} → (X → ℕ) → List X → ℕ
most f [] = 0
most f (x ∷ rest) = max (f x) (most f rest)

pub most_append : {X : Type 0} (f : X → ℕ) (xs ys : List X) → most f (xs ++ ys) ≡ max (most f xs) (most f ys)
most_append f [] ys = omega arith
most_append f (x ∷ xs) ys = let more = most_append f xs ys in omega (arith, more)

pub most_within : {X : Type 0} (f : X → ℕ) (limit : ℕ) (xs : List X) → AllByRecursion (λ x. f x ≤ limit) xs → most f xs ≤ limit
most_within f limit [] all = omega arith
most_within f limit (x ∷ xs) all = let a = all.0 in let b = most_within f limit xs all.1 in omega (arith, a, b)

-- elements that suit one by one
pub alike_append : {X Y : Type 0} (R : X → Y → Type 0) (xs xs' : List X) (ys ys' : List Y) → AllZip R xs ys → AllZip R xs' ys' →
    AllZip R (xs ++ xs') (ys ++ ys')
alike_append R [] xs' [] ys' one two = two
alike_append R (x ∷ xs) xs' (y ∷ ys) ys' one two = (one.0, alike_append R xs xs' ys ys' one.1 two)
alike_append R [] xs' (y ∷ ys) ys' one two = absurd one
alike_append R (x ∷ xs) xs' [] ys' one two = absurd one

pub alike_length : {X Y : Type 0} (R : X → Y → Type 0) (xs : List X) (ys : List Y) → AllZip R xs ys → length xs ≡ length ys
alike_length R [] [] alike = refl
alike_length R (x ∷ xs) (y ∷ ys) alike = ap suc (alike_length R xs ys alike.1)
alike_length R [] (y ∷ ys) alike = absurd alike
alike_length R (x ∷ xs) [] alike = absurd alike

pub record Suited {X Y : Type 0} (R : X → Y → Type 0) (x : X) (ys : List Y) (i : ℕ) : Type 0 where
  pub other : Y
  pub there : slice_get ys i ≡ Some other
  pub suits : R x other

pub alike_at : {X Y : Type 0} (R : X → Y → Type 0) (xs : List X) (ys : List Y) (i : ℕ) (x : X) → AllZip R xs ys → slice_get xs i ≡ Some x →
    Suited R x ys i
alike_at R [] [] i x alike is = absurd (none-some x is)
alike_at R (first ∷ xs) (y ∷ ys) zero x alike is = record { other = y; there = refl; suits = subst (λ z. R z y) (some_one is) alike.0 }
alike_at R (first ∷ xs) (y ∷ ys) (suc i) x alike is =
    let more = alike_at R xs ys i x alike.1 is in record { other = more.other; there = more.there; suits = more.suits }
alike_at R [] (y ∷ ys) i x alike is = absurd alike
alike_at R (first ∷ xs) [] i x alike is = absurd alike
