-- What stands at the places of a list, before and after one was written.
use Rattle.std.proofs.Common.{◌≡◌, ◌≢◌, ℕ, zero, suc, ◌<◌, List, [], ◌∷◌, Option, Some, None, length, slice_get, slice_set, refl, sym, ap, ◌∙◌, arith}
use Rattle.std.proofs.lemmas.Option.{none-some}
use Rattle.pearl_rules.specs.Runs.{kept_at}

-- what was written first is gone
pub set_twice : {X : Type 0} (xs : List X) (t : ℕ) (x y : X) → slice_set (slice_set xs t x) t y ≡ slice_set xs t y
set_twice [] t x y = refl
set_twice (z ∷ xs) zero x y = refl
set_twice (z ∷ xs) (suc t) x y = ap (λ ys. z ∷ ys) (set_twice xs t x y)

pub set_again : {X : Type 0} (old mid new : List X) (t : ℕ) (x y : X) → mid ≡ slice_set old t x → new ≡ slice_set mid t y → new ≡ slice_set old t y
set_again old mid new t x y first second = second ∙ (ap (λ xs. slice_set xs t y) first ∙ set_twice old t x y)

-- what stands where it was written
pub get_here : {X : Type 0} (xs : List X) (t : ℕ) (x : X) → t < length xs → slice_get (slice_set xs t x) t ≡ Some x
get_here [] t x there = let no : ⊥ = omega arith in absurd no
get_here (z ∷ xs) zero x there = refl
get_here (z ∷ xs) (suc t) x there = get_here xs t x (omega arith)

-- and elsewhere
pub get_elsewhere : {X : Type 0} (xs : List X) (t i : ℕ) (x : X) → t ≢ i → slice_get (slice_set xs t x) i ≡ slice_get xs i
get_elsewhere [] t i x other = refl
get_elsewhere (z ∷ xs) zero zero x other = absurd (other refl)
get_elsewhere (z ∷ xs) zero (suc i) x other = refl
get_elsewhere (z ∷ xs) (suc t) zero x other = refl
get_elsewhere (z ∷ xs) (suc t) (suc i) x other = get_elsewhere xs t i x (λ e. other (ap suc e))

-- likewise in a list of what is kept
pub kept_here : {X : Type 0} (xs : List (Option X)) (t : ℕ) (x : Option X) → t < length xs → kept_at (slice_set xs t x) t ≡ x
kept_here [] t x there = let no : ⊥ = omega arith in absurd no
kept_here (z ∷ xs) zero x there = refl
kept_here (z ∷ xs) (suc t) x there = kept_here xs t x (omega arith)

pub kept_gone : {X : Type 0} (xs : List (Option X)) (t : ℕ) → kept_at (slice_set xs t None) t ≡ None
kept_gone [] t = refl
kept_gone (z ∷ xs) zero = refl
kept_gone (z ∷ xs) (suc t) = kept_gone xs t

pub kept_elsewhere : {X : Type 0} (xs : List (Option X)) (t i : ℕ) (x : Option X) → t ≢ i → kept_at (slice_set xs t x) i ≡ kept_at xs i
kept_elsewhere [] t i x other = refl
kept_elsewhere (z ∷ xs) zero zero x other = absurd (other refl)
kept_elsewhere (z ∷ xs) zero (suc i) x other = refl
kept_elsewhere (z ∷ xs) (suc t) zero x other = refl
kept_elsewhere (z ∷ xs) (suc t) (suc i) x other = kept_elsewhere xs t i x (λ e. other (ap suc e))

-- writing what stands there changes nothing
pub kept_same : {X : Type 0} (xs : List (Option X)) (t : ℕ) (x : X) → kept_at xs t ≡ Some x → slice_set xs t (Some x) ≡ xs
kept_same [] t x e = refl
kept_same (z ∷ xs) zero x e = ap (λ y. y ∷ xs) (sym e)
kept_same (z ∷ xs) (suc t) x e = ap (λ ys. z ∷ ys) (kept_same xs t x e)

-- where something is kept there is a place
pub kept_there : {X : Type 0} (xs : List (Option X)) (t : ℕ) (x : X) → kept_at xs t ≡ Some x → t < length xs
kept_there [] t x e = absurd (none-some x e)
kept_there (z ∷ xs) zero x e = omega arith
kept_there (z ∷ xs) (suc t) x e = let more = kept_there xs t x e in omega arith
