-- Lists by their places: rows of tasks, and what is kept of each task.
use Rattle.std.proofs.Common.{◌≡◌, ◌≢◌, Bool, true, false, nat_eq, ℕ, zero, suc, ◌<◌, List, [], ◌∷◌, Option, Some, None}
use Rattle.std.proofs.Common.{length, slice_get, slice_set, refl, ap, ◌∙◌, length-set, eqb-true, arith}
use Rattle.std.proofs.lemmas.Bool.{eqb-false}
use Rattle.std.proofs.lemmas.Option.{none-some}
use Rattle.pearl_rules.specs.Runs.{dropped, kept_at}

-- the same task or another one
pub by_task : (t own : ℕ) (P : Type 0) → (t ≡ own → P) → (t ≢ own → P) → P
by_task t own P same other = by_test (nat_eq t own) refl
  where
    by_test : (b : Bool) → nat_eq t own ≡ b → P
    by_test true e = same (eqb-true t own e)
    by_test false e = other (eqb-false t own e)

module _ {X : Type 0} where
  -- another place
  pub kept-other : (xs : List (Option X)) (u t : ℕ) (x : Option X) → t ≢ u → kept_at (slice_set xs u x) t ≡ kept_at xs t
  kept-other [] u t x other = refl
  kept-other (y ∷ xs) zero zero x other = absurd (other refl)
  kept-other (y ∷ xs) zero (suc t) x other = refl
  kept-other (y ∷ xs) (suc u) zero x other = refl
  kept-other (y ∷ xs) (suc u) (suc t) x other = kept-other xs u t x (λ e. other (ap suc e))

  -- a place that is written
  pub kept-set : (xs : List (Option X)) (u : ℕ) (x y : X) → kept_at (slice_set xs u (Some x)) u ≡ Some y → x ≡ y
  kept-set [] u x y e = absurd (none-some y e)
  kept-set (z ∷ xs) zero x y e = same x y e
    where
      same : (x y : X) → Some x ≡ Some y → x ≡ y
      same x y e = cc
  kept-set (z ∷ xs) (suc u) x y e = kept-set xs u x y e

  -- where nothing was kept, nothing is after something is gone
  pub none-less : (xs : List (Option X)) (u t : ℕ) → kept_at xs t ≡ None → kept_at (slice_set xs u None) t ≡ None
  none-less [] u t e = e
  none-less (x ∷ xs) zero zero e = refl
  none-less (x ∷ xs) zero (suc t) e = e
  none-less (x ∷ xs) (suc u) zero e = e
  none-less (x ∷ xs) (suc u) (suc t) e = none-less xs u t e

  -- and nothing at the place that is gone
  pub none-here : (xs : List (Option X)) (u : ℕ) → kept_at (slice_set xs u None) u ≡ None
  none-here [] u = refl
  none-here (x ∷ xs) zero = refl
  none-here (x ∷ xs) (suc u) = none-here xs u

  -- what is kept after something is gone was kept before
  pub some-before : (xs : List (Option X)) (u t : ℕ) (x : X) → kept_at (slice_set xs u None) t ≡ Some x →
      kept_at xs t ≡ Some x
  some-before [] u t x e = e
  some-before (y ∷ xs) zero zero x e = absurd (none-some x e)
  some-before (y ∷ xs) zero (suc t) x e = e
  some-before (y ∷ xs) (suc u) zero x e = e
  some-before (y ∷ xs) (suc u) (suc t) x e = some-before xs u t x e

  pub some-dropped : (ts : List ℕ) (xs : List (Option X)) (t : ℕ) (x : X) → kept_at (dropped ts xs) t ≡ Some x →
      kept_at xs t ≡ Some x
  some-dropped [] xs t x e = e
  some-dropped (u ∷ ts) xs t x e = some-before xs u t x (some-dropped ts (slice_set xs u None) t x e)

  pub dropped-length : (ts : List ℕ) (xs : List (Option X)) → length (dropped ts xs) ≡ length xs
  dropped-length [] xs = refl
  dropped-length (t ∷ ts) xs = dropped-length ts (slice_set xs t None) ∙ length-set xs t None

module _ {X : Type 0} where
  -- another place of a list
  pub get-other : (xs : List X) (u t : ℕ) (x : X) → t ≢ u → slice_get (slice_set xs u x) t ≡ slice_get xs t
  get-other [] u t x other = refl
  get-other (y ∷ xs) zero zero x other = absurd (other refl)
  get-other (y ∷ xs) zero (suc t) x other = refl
  get-other (y ∷ xs) (suc u) zero x other = refl
  get-other (y ∷ xs) (suc u) (suc t) x other = get-other xs u t x (λ e. other (ap suc e))

  -- a place that is written
  pub get-same : (xs : List X) (u : ℕ) (x : X) → u < length xs → slice_get (slice_set xs u x) u ≡ Some x
  get-same [] u x there = let no : ⊥ = omega arith in absurd no
  get-same (y ∷ xs) zero x there = refl
  get-same (y ∷ xs) (suc u) x there = get-same xs u x (omega arith)
