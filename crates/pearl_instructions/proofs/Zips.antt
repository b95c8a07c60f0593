-- Values that suit kinds, place by place.
use Rattle.std.proofs.Common.{◌≡◌, ℕ, zero, suc, ◌<◌, List, [], ◌∷◌, ◌++◌, Some, None, length, map, reverse, take, drop, slice_get, slice_set, refl, sym, ap, subst, arith}
use Rattle.std.specs.List.{AllZip}
use Rattle.std.proofs.lemmas.Option.{same_Some}
use mathlib.Core.List.{reverse_aux}

pub zip_get : {A B : Type 0} (R : A → B → Type 0) (ks : List A) (xs : List B) (n : ℕ) (k : A) → AllZip R ks xs → slice_get ks n ≡ Some k →
    (x : B) × (slice_get xs n ≡ Some x) × R k x
zip_get R [] xs n k z e = cc
zip_get R (a ∷ ks) [] n k z e = absurd z
zip_get R (a ∷ ks) (x ∷ xs) zero k z e = (x, refl, subst (λ a. R a x) (same_Some a k e) z.0)
zip_get R (a ∷ ks) (x ∷ xs) (suc n) k z e = zip_get R ks xs n k z.1 e

pub zip_set : {A B : Type 0} (R : A → B → Type 0) (ks : List A) (xs : List B) (n : ℕ) (k : A) (x : B) → AllZip R ks xs → slice_get ks n ≡ Some k →
    R k x → AllZip R ks (slice_set xs n x)
zip_set R [] xs n k x z e r = cc
zip_set R (a ∷ ks) [] n k x z e r = absurd z
zip_set R (a ∷ ks) (y ∷ xs) zero k x z e r = (subst (λ a. R a x) (sym (same_Some a k e)) r, z.1)
zip_set R (a ∷ ks) (y ∷ xs) (suc n) k x z e r = (z.0, zip_set R ks xs n k x z.1 e r)

pub zip_length : {A B : Type 0} (R : A → B → Type 0) (ks : List A) (xs : List B) → AllZip R ks xs → length ks ≡ length xs
zip_length R [] [] z = refl
zip_length R [] (x ∷ xs) z = absurd z
zip_length R (k ∷ ks) [] z = absurd z
zip_length R (k ∷ ks) (x ∷ xs) z = ap suc (zip_length R ks xs z.1)

pub zip_take : {A B : Type 0} (R : A → B → Type 0) (n : ℕ) (ks : List A) (xs : List B) → AllZip R ks xs → AllZip R (take n ks) (take n xs)
zip_take R zero ks xs z = tt
zip_take R (suc n) [] [] z = tt
zip_take R (suc n) [] (x ∷ xs) z = absurd z
zip_take R (suc n) (k ∷ ks) [] z = absurd z
zip_take R (suc n) (k ∷ ks) (x ∷ xs) z = (z.0, zip_take R n ks xs z.1)

pub zip_drop : {A B : Type 0} (R : A → B → Type 0) (n : ℕ) (ks : List A) (xs : List B) → AllZip R ks xs → AllZip R (drop n ks) (drop n xs)
zip_drop R zero ks xs z = z
zip_drop R (suc n) [] [] z = tt
zip_drop R (suc n) [] (x ∷ xs) z = absurd z
zip_drop R (suc n) (k ∷ ks) [] z = absurd z
zip_drop R (suc n) (k ∷ ks) (x ∷ xs) z = zip_drop R n ks xs z.1

pub zip_append : {A B : Type 0} (R : A → B → Type 0) (ks ls : List A) (xs ys : List B) → AllZip R ks xs → AllZip R ls ys → AllZip R (ks ++ ls) (xs ++ ys)
zip_append R [] ls [] ys z w = w
zip_append R [] ls (x ∷ xs) ys z w = absurd z
zip_append R (k ∷ ks) ls [] ys z w = absurd z
zip_append R (k ∷ ks) ls (x ∷ xs) ys z w = (z.0, zip_append R ks ls xs ys z.1 w)

zip_reverse_onto : {A B : Type 0} (R : A → B → Type 0) (ks ls : List A) (xs ys : List B) → AllZip R ks xs → AllZip R ls ys →
    AllZip R (reverse_aux ks ls) (reverse_aux xs ys)
zip_reverse_onto R [] ls [] ys z w = w
zip_reverse_onto R [] ls (x ∷ xs) ys z w = absurd z
zip_reverse_onto R (k ∷ ks) ls [] ys z w = absurd z
zip_reverse_onto R (k ∷ ks) ls (x ∷ xs) ys z w = zip_reverse_onto R ks (k ∷ ls) xs (x ∷ ys) z.1 (z.0, w)

pub zip_reverse : {A B : Type 0} (R : A → B → Type 0) (ks : List A) (xs : List B) → AllZip R ks xs → AllZip R (reverse ks) (reverse xs)
zip_reverse R ks xs z = zip_reverse_onto R ks [] xs [] z tt

pub zip_map : {A B C : Type 0} (R : A → C → Type 0) (S : B → C → Type 0) (f : A → B) (ks : List A) (xs : List C) → ((k : A) (x : C) → R k x → S (f k) x) →
    AllZip R ks xs → AllZip S (map f ks) xs
zip_map R S f [] [] h z = tt
zip_map R S f [] (x ∷ xs) h z = absurd z
zip_map R S f (k ∷ ks) [] h z = absurd z
zip_map R S f (k ∷ ks) (x ∷ xs) h z = (h k x z.0, zip_map R S f ks xs h z.1)

pub zip_weaker : {A B : Type 0} (R S : A → B → Type 0) (ks : List A) (xs : List B) → ((k : A) (x : B) → R k x → S k x) → AllZip R ks xs → AllZip S ks xs
zip_weaker R S [] [] h z = tt
zip_weaker R S [] (x ∷ xs) h z = absurd z
zip_weaker R S (k ∷ ks) [] h z = absurd z
zip_weaker R S (k ∷ ks) (x ∷ xs) h z = (h k x z.0, zip_weaker R S ks xs h z.1)

pub some_at : {A : Type 0} (xs : List A) (n : ℕ) → n < length xs → (x : A) × (slice_get xs n ≡ Some x)
some_at [] n h = absurd (omega (arith, h))
some_at (x ∷ xs) zero h = (x, refl)
some_at (x ∷ xs) (suc n) h = some_at xs n (omega (arith, h))

pub none_past : {A : Type 0} (xs : List A) → slice_get xs (length xs) ≡ None
none_past [] = refl
none_past (x ∷ xs) = none_past xs
