-- What is kept of each task where a place is written, tasks end, or a mark was made.
use Rattle.std.proofs.Common.{◌≡◌, ◌⊎◌, inl, inr, ℕ, zero, suc, ◌+◌, List, [], ◌∷◌, Bool, true, false, Option, Some, None, slice_get, slice_set, refl, sym, ap, ◌∙◌, add-zero, arith}
use Rattle.std.specs.Prelude.{is_some}
use Rattle.std.proofs.lemmas.Option.{none-some, same_Some}
use Rattle.pearl_rules.specs.declared.row.TaskRow.{TaskRow}
use Rattle.pearl_rules.specs.Core.{is_active_row}
use Rattle.pearl_rules.specs.Runs.{kept, refreshed, dropped, kept_at}

-- what is at a place after another was written was written there, or was there before
pub set_is : {X : Type 0} (xs : List (Option X)) (u : ℕ) (v : Option X) (t : ℕ) (x : X) →
    kept_at (slice_set xs u v) t ≡ Some x → ((t ≡ u) × (v ≡ Some x)) ⊎ (kept_at xs t ≡ Some x)
set_is [] u v t x e = inr e
set_is (y ∷ xs) zero v zero x e = inl (refl, e)
set_is (y ∷ xs) zero v (suc t) x e = inr e
set_is (y ∷ xs) (suc u) v zero x e = inr e
set_is (y ∷ xs) (suc u) v (suc t) x e = by (set_is xs u v t x e)
  where
    by : ((t ≡ u) × (v ≡ Some x)) ⊎ (kept_at xs t ≡ Some x) → ((suc t ≡ suc u) × (v ≡ Some x)) ⊎ (kept_at xs t ≡ Some x)
    by (inl here) = inl (ap suc here.0, here.1)
    by (inr there) = inr there

-- what is still kept after some tasks ended was kept before
pub dropped_is : {X : Type 0} (ts : List ℕ) (xs : List (Option X)) (t : ℕ) (x : X) →
    kept_at (dropped ts xs) t ≡ Some x → kept_at xs t ≡ Some x
dropped_is [] xs t x e = e
dropped_is (u ∷ ts) xs t x e = by (set_is xs u None t x (dropped_is ts (slice_set xs u None) t x e))
  where
    by : ((t ≡ u) × (None ≡ Some x)) ⊎ (kept_at xs t ≡ Some x) → kept_at xs t ≡ Some x
    by (inl here) = absurd (none-some x here.1)
    by (inr there) = there

-- a place that is written with something, where something is, is no more empty than before
pub set_filled : {X : Type 0} (xs : List (Option X)) (u : ℕ) (old x : X) → kept_at xs u ≡ Some old → (t : ℕ) →
    is_some (kept_at (slice_set xs u (Some x)) t) ≡ is_some (kept_at xs t)
set_filled [] u old x e t = refl
set_filled (y ∷ xs) zero old x e zero = sym (ap is_some e)
set_filled (y ∷ xs) zero old x e (suc t) = refl
set_filled (y ∷ xs) (suc u) old x e zero = refl
set_filled (y ∷ xs) (suc u) old x e (suc t) = set_filled xs u old x e t

-- what is kept at a place after a mark
pub refreshed_is : {X : Type 0} (fresh : ℕ → X) (t : ℕ) (rows : List TaskRow) (xs : List (Option X)) (i : ℕ) →
    kept_at (refreshed fresh t rows xs) i ≡ kept (is_active_row (slice_get rows i)) (fresh (t + i)) (kept_at xs i)
refreshed_is fresh t [] xs i = refl
refreshed_is fresh t (row ∷ rows) [] zero = ap (λ u. kept (is_active_row (Some row)) (fresh u) None) (sym (add-zero t))
refreshed_is fresh t (row ∷ rows) (x ∷ xs) zero =
    ap (λ u. kept (is_active_row (Some row)) (fresh u) x) (sym (add-zero t))
refreshed_is fresh t (row ∷ rows) [] (suc i) =
    let e : (t + 1) + i ≡ t + suc i = omega arith in
    refreshed_is fresh (t + 1) rows [] i ∙ ap (λ u. kept (is_active_row (slice_get rows i)) (fresh u) None) e
refreshed_is fresh t (row ∷ rows) (x ∷ xs) (suc i) =
    let e : (t + 1) + i ≡ t + suc i = omega arith in
    refreshed_is fresh (t + 1) rows xs i ∙ ap (λ u. kept (is_active_row (slice_get rows i)) (fresh u) (kept_at xs i)) e

kept_some : {X : Type 0} (active : Bool) (fresh : X) (x : Option X) → is_some (kept active fresh x) ≡ active
kept_some false fresh x = refl
kept_some true fresh None = refl
kept_some true fresh (Some x) = refl

-- so exactly of the active tasks something is kept
pub refreshed_filled : {X : Type 0} (fresh : ℕ → X) (rows : List TaskRow) (xs : List (Option X)) (t : ℕ) →
    is_some (kept_at (refreshed fresh 0 rows xs) t) ≡ is_active_row (slice_get rows t)
refreshed_filled fresh rows xs t =
    ap is_some (refreshed_is fresh 0 rows xs t)
    ∙ kept_some (is_active_row (slice_get rows t)) (fresh (0 + t)) (kept_at xs t)

-- and it is what was kept before, or begins afresh
pub refreshed_from : {X : Type 0} (fresh : ℕ → X) (rows : List TaskRow) (xs : List (Option X)) (t : ℕ) (x : X) →
    kept_at (refreshed fresh 0 rows xs) t ≡ Some x → (x ≡ fresh (0 + t)) ⊎ (kept_at xs t ≡ Some x)
refreshed_from {X} fresh rows xs t x e =
    by (is_active_row (slice_get rows t)) (kept_at xs t) (sym (refreshed_is fresh 0 rows xs t) ∙ e)
  where
    by : (active : Bool) (y : Option X) → kept active (fresh (0 + t)) y ≡ Some x → (x ≡ fresh (0 + t)) ⊎ (y ≡ Some x)
    by false y e = absurd (none-some x e)
    by true None e = inl (sym (same_Some (fresh (0 + t)) x e))
    by true (Some y) e = inr e
