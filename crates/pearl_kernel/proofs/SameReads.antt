-- GETs that wait for the same.
use Rattle.std.proofs.Common.{◌≡◌, ℕ, suc, ◌+◌, ◌<◌, List, [], ◌∷◌}
use Rattle.std.proofs.Common.{length, slice_get, refl, sym, ap₂, subst, arith}
use Rattle.std.proofs.lemmas.Option.{same_Some}
use Rattle.pearl_kernel.proofs.Places.{by_task}

-- the first n of two lists of the same length are the same
pub record AreSameTo {X : Type 0} (xs ys : List X) (n : ℕ) : Type 0 where
  pub size : length xs ≡ length ys
  pub each : (k : ℕ) → k < n → slice_get xs k ≡ slice_get ys k

pub none-compared : {X : Type 0} (xs ys : List X) → length xs ≡ length ys → AreSameTo xs ys 0
none-compared xs ys size = record { size = size; each = λ k within. absurd (omega (arith, within)) }

pub one-compared : {X : Type 0} (xs ys : List X) (n : ℕ) → AreSameTo xs ys n → slice_get xs n ≡ slice_get ys n →
    AreSameTo xs ys (n + 1)
one-compared xs ys n are same = record {
  size = are.size;
  each = λ k within. by_task k n (slice_get xs k ≡ slice_get ys k)
      (λ e. subst (λ j. slice_get xs j ≡ slice_get ys j) (sym e) same)
      (λ other. are.each k (omega (arith, within, other)));
}

pub all-compared : {X : Type 0} (xs ys : List X) → length xs ≡ length ys →
    ((k : ℕ) → k < length xs → slice_get xs k ≡ slice_get ys k) → xs ≡ ys
all-compared [] [] size each = refl
all-compared [] (y ∷ ys) size each = absurd (omega (arith, size))
all-compared (x ∷ xs) [] size each = absurd (omega (arith, size))
all-compared (x ∷ xs) (y ∷ ys) size each = ap₂ (λ z zs. z ∷ zs) (same_Some x y (each 0 (omega arith)))
    (all-compared xs ys (omega (arith, size)) (λ k within. each (suc k) (omega (arith, within))))
