-- What is kept of each task where a place is written, tasks end, or a mark was made.
use Rattle.std.proofs.Common.{◌≡◌, ◌⊎◌, inl, inr, ℕ, zero, suc, ◌+◌, ◌<◌, List, [], ◌∷◌, Bool, true, false, Option}
use Rattle.std.proofs.Common.{Some, None, length, slice_set, refl, sym, ap, subst, add-zero, arith}
use Rattle.std.proofs.lemmas.Option.{none-some, same_Some}
use Rattle.pearl_rules.specs.declared.row.TaskRow.{TaskRow}
use Rattle.pearl_rules.specs.Core.{is_active_row}
use Rattle.pearl_rules.specs.Runs.{kept, refreshed, dropped, kept_at}

-- what is at a place after another was written was written there, or was there before
pub set_is : {X : Type 0} (xs : List (Option X)) (u : ℕ) (v : Option X) (t : ℕ) (x : X) →
    kept_at (slice_set xs u v) t ≡ Some x → ((t ≡ u) × (v ≡ Some x)) ⊎ (kept_at xs t ≡ Some x)
set_is [] u v t x e = inr e
set_is (y ∷ xs) zero v zero x e = inl (refl, e)
set_is (y ∷ xs) zero v (suc t) x e = inr e
set_is (y ∷ xs) (suc u) v zero x e = inr e
set_is (y ∷ xs) (suc u) v (suc t) x e = by (set_is xs u v t x e)
  where
    by : ((t ≡ u) × (v ≡ Some x)) ⊎ (kept_at xs t ≡ Some x) → ((suc t ≡ suc u) × (v ≡ Some x)) ⊎ (kept_at xs t ≡ Some x)
    by (inl here) = inl (ap suc here.0, here.1)
    by (inr there) = inr there

-- what is still kept after some tasks ended was kept before
pub dropped_is : {X : Type 0} (ts : List ℕ) (xs : List (Option X)) (t : ℕ) (x : X) →
    kept_at (dropped ts xs) t ≡ Some x → kept_at xs t ≡ Some x
dropped_is [] xs t x e = e
dropped_is (u ∷ ts) xs t x e = by (set_is xs u None t x (dropped_is ts (slice_set xs u None) t x e))
  where
    by : ((t ≡ u) × (None ≡ Some x)) ⊎ (kept_at xs t ≡ Some x) → kept_at xs t ≡ Some x
    by (inl here) = absurd (none-some x here.1)
    by (inr there) = there

-- there are as many places as tasks after each mark
pub refreshed_long : {X : Type 0} (fresh : ℕ → X) (t : ℕ) (rows : List TaskRow) (xs : List (Option X)) →
    length (refreshed fresh t rows xs) ≡ length rows
refreshed_long fresh t [] xs = refl
refreshed_long fresh t (row ∷ rows) [] = ap suc (refreshed_long fresh (t + 1) rows [])
refreshed_long fresh t (row ∷ rows) (x ∷ xs) = ap suc (refreshed_long fresh (t + 1) rows xs)

-- what a mark leaves at a place: the beginning of a task, or what was kept there before
pub record Left {X : Type 0} (fresh : X) (before : Option X) (room i : ℕ) (x : X) : Type 0 where
  pub there : i < room
  pub is : (x ≡ fresh) ⊎ (before ≡ Some x)

left_one : {X : Type 0} (active : Bool) (fresh : X) (before : Option X) (x : X) → kept active fresh before ≡ Some x →
    (x ≡ fresh) ⊎ (before ≡ Some x)
left_one false fresh before x e = absurd (none-some x e)
left_one true fresh None x e = inl (sym (same_Some fresh x e))
left_one true fresh (Some y) x e = inr e

left_later : {X : Type 0} (fresh : ℕ → X) (t i room : ℕ) (before : Option X) (x : X) →
    Left (fresh ((t + 1) + i)) before room i x → Left (fresh (t + suc i)) before (suc room) (suc i) x
left_later fresh t i room before x left =
    let e : (t + 1) + i ≡ t + suc i = omega arith in
    let there = left.there in
    record { there = omega (arith, there); is = subst (λ n. (x ≡ fresh n) ⊎ (before ≡ Some x)) e left.is }

pub refreshed_is : {X : Type 0} (fresh : ℕ → X) (t : ℕ) (rows : List TaskRow) (xs : List (Option X)) (i : ℕ) (x : X) →
    kept_at (refreshed fresh t rows xs) i ≡ Some x → Left (fresh (t + i)) (kept_at xs i) (length rows) i x
refreshed_is fresh t [] xs i x e = absurd (none-some x e)
refreshed_is fresh t (row ∷ rows) [] zero x e = record {
  there = omega arith;
  is = subst (λ n. (x ≡ fresh n) ⊎ (None ≡ Some x)) (sym (add-zero t))
      (left_one (is_active_row (Some row)) (fresh t) None x e);
}
refreshed_is fresh t (row ∷ rows) (y ∷ xs) zero x e = record {
  there = omega arith;
  is = subst (λ n. (x ≡ fresh n) ⊎ (y ≡ Some x)) (sym (add-zero t))
      (left_one (is_active_row (Some row)) (fresh t) y x e);
}
refreshed_is fresh t (row ∷ rows) [] (suc i) x e =
    left_later fresh t i (length rows) None x (refreshed_is fresh (t + 1) rows [] i x e)
refreshed_is fresh t (row ∷ rows) (y ∷ xs) (suc i) x e =
    left_later fresh t i (length rows) (kept_at xs i) x (refreshed_is fresh (t + 1) rows xs i x e)
