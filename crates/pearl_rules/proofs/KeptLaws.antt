-- What is kept for each task, on the two sides of a run: the lists stand side by side, place by place.
use Rattle.std.proofs.Common.{◌≡◌, ℕ, zero, suc, ◌+◌, ◌<◌, ◌⊎◌, inl, inr, List, [], ◌∷◌, Option, Some, None, Bool, true, false, nat_eq, length, slice_get, slice_set, refl, sym, ap, subst, ◌∙◌, add-zero, zero-add, eqb-true, arith}
use Rattle.std.specs.List.{Contains}
use Rattle.std.proofs.lemmas.Bool.{eqb-false}
use Rattle.std.proofs.lemmas.Option.{slice_get_within}
use Rattle.pearl_rules.specs.declared.row.TaskRow.{TaskRow}
use Rattle.pearl_rules.specs.Core.{is_active_mode, is_active_row}
use Rattle.pearl_rules.specs.Runs.{kept, refreshed, dropped, flattened, kept_at}
use Rattle.pearl_rules.specs.Laws.{BeginsAfresh}
use Rattle.pearl_rules.proofs.Places.{here, there, where_is, no_member, set-other}

-- there are as many places as tasks after each mark
pub refreshed-length : {X : Type 0} (fresh : ℕ → X) (t : ℕ) (rows : List TaskRow) (xs : List (Option X)) →
    length (refreshed fresh t rows xs) ≡ length rows
refreshed-length fresh t [] xs = refl
refreshed-length fresh t (row ∷ rows) [] = ap suc (refreshed-length fresh (t + 1) rows [])
refreshed-length fresh t (row ∷ rows) (x ∷ xs) = ap suc (refreshed-length fresh (t + 1) rows xs)

module _ (X Y : Type 0) (Same : ℕ → X → Y → Type 0) where
  -- both sides keep nothing, or what they keep fits
  abbrev pub Both : ℕ → Option X → Option Y → Type 0
  Both t None None = Unit {0}
  Both t None (Some y) = ⊥
  Both t (Some x) None = ⊥
  Both t (Some x) (Some y) = Same t x y

  -- the same at each place, the first having the number t
  abbrev pub AllAt : ℕ → List (Option X) → List (Option Y) → Type 0
  AllAt t [] [] = Unit {0}
  AllAt t [] (y ∷ ys) = ⊥
  AllAt t (x ∷ xs) [] = ⊥
  AllAt t (x ∷ xs) (y ∷ ys) = Both t x y × AllAt (t + 1) xs ys

  -- one place
  pub at_at : (t : ℕ) (xs : List (Option X)) (ys : List (Option Y)) → AllAt t xs ys → (i : ℕ) →
      Both (t + i) (kept_at xs i) (kept_at ys i)
  at_at t [] [] all i = tt
  at_at t [] (y ∷ ys) all i = absurd all
  at_at t (x ∷ xs) [] all i = absurd all
  at_at t (x ∷ xs) (y ∷ ys) all zero = subst (λ u. Both u x y) (sym (add-zero t)) all.0
  at_at t (x ∷ xs) (y ∷ ys) all (suc i) =
      let e : (t + 1) + i ≡ t + suc i = omega arith in
      subst (λ u. Both u (kept_at xs i) (kept_at ys i)) e (at_at (t + 1) xs ys all.1 i)

  -- a place that is written on both sides
  pub set_at : (t : ℕ) (xs : List (Option X)) (ys : List (Option Y)) → AllAt t xs ys → (i : ℕ) (x : Option X) (y : Option Y) →
      Both (t + i) x y → AllAt t (slice_set xs i x) (slice_set ys i y)
  set_at t [] [] all i x y b = tt
  set_at t [] (w ∷ ys) all i x y b = absurd all
  set_at t (v ∷ xs) [] all i x y b = absurd all
  set_at t (v ∷ xs) (w ∷ ys) all zero x y b = (subst (λ u. Both u x y) (add-zero t) b, all.1)
  set_at t (v ∷ xs) (w ∷ ys) all (suc i) x y b =
      let e : t + suc i ≡ (t + 1) + i = omega arith in
      (all.0, set_at (t + 1) xs ys all.1 i x y (subst (λ u. Both u x y) e b))

  -- a place that is written on the right side alone, as the left side has it
  pub set_right : (t : ℕ) (xs : List (Option X)) (ys : List (Option Y)) → AllAt t xs ys → (i : ℕ) (y : Option Y) →
      Both (t + i) (kept_at xs i) y → AllAt t xs (slice_set ys i y)
  set_right t [] [] all i y b = tt
  set_right t [] (w ∷ ys) all i y b = absurd all
  set_right t (v ∷ xs) [] all i y b = absurd all
  set_right t (v ∷ xs) (w ∷ ys) all zero y b = (subst (λ u. Both u v y) (add-zero t) b, all.1)
  set_right t (v ∷ xs) (w ∷ ys) all (suc i) y b =
      let e : t + suc i ≡ (t + 1) + i = omega arith in
      (all.0, set_right (t + 1) xs ys all.1 i y (subst (λ u. Both u (kept_at xs i) y) e b))

  -- what was kept of tasks that ended is gone on both sides
  pub dropped_at : (ts : List ℕ) (t : ℕ) (xs : List (Option X)) (ys : List (Option Y)) → AllAt t xs ys → AllAt t (dropped ts xs) (dropped ts ys)
  dropped_at [] t xs ys all = all
  dropped_at (u ∷ ts) t xs ys all = dropped_at ts t (slice_set xs u None) (slice_set ys u None) (set_at t xs ys all u None None tt)

  -- what is begun afresh fits where the beginnings fit
  pub kept_both : (active : Bool) (t : ℕ) (f : X) (g : Y) → Same t f g → (x : Option X) (y : Option Y) → Both t x y →
      Both t (kept active f x) (kept active g y)
  kept_both false t f g b x y all = tt
  kept_both true t f g b None None all = b
  kept_both true t f g b None (Some y) all = absurd all
  kept_both true t f g b (Some x) None all = absurd all
  kept_both true t f g b (Some x) (Some y) all = all

  -- after a mark the places fit again
  pub refreshed_at : (f : ℕ → X) (g : ℕ → Y) (t : ℕ) (rows : List TaskRow) → ((u : ℕ) → u < t + length rows → Same u (f u) (g u)) →
      (xs : List (Option X)) (ys : List (Option Y)) → AllAt t xs ys → AllAt t (refreshed f t rows xs) (refreshed g t rows ys)
  refreshed_at f g t [] begins xs ys all = tt
  refreshed_at f g t (row ∷ rows) begins [] [] all = (
    kept_both (is_active_row (Some row)) t (f t) (g t) (begins t (omega arith)) None None tt,
    refreshed_at f g (t + 1) rows (λ u less. begins u (omega (arith, less))) [] [] tt,
  )
  refreshed_at f g t (row ∷ rows) begins [] (y ∷ ys) all = absurd all
  refreshed_at f g t (row ∷ rows) begins (x ∷ xs) [] all = absurd all
  refreshed_at f g t (row ∷ rows) begins (x ∷ xs) (y ∷ ys) all = (
    kept_both (is_active_row (Some row)) t (f t) (g t) (begins t (omega arith)) x y all.0,
    refreshed_at f g (t + 1) rows (λ u less. begins u (omega (arith, less))) xs ys all.1,
  )

-- ONE PLACE OF A LIST

-- what is kept at a place after a mark
pub refreshed_is : {X : Type 0} (fresh : ℕ → X) (t : ℕ) (rows : List TaskRow) (xs : List (Option X)) (i : ℕ) → i < length rows →
    kept_at (refreshed fresh t rows xs) i ≡ kept (is_active_row (slice_get rows i)) (fresh (t + i)) (kept_at xs i)
refreshed_is fresh t [] xs i less = let no : ⊥ = omega arith in absurd no
refreshed_is fresh t (row ∷ rows) [] zero less = ap (λ u. kept (is_active_row (Some row)) (fresh u) None) (sym (add-zero t))
refreshed_is fresh t (row ∷ rows) (x ∷ xs) zero less = ap (λ u. kept (is_active_row (Some row)) (fresh u) x) (sym (add-zero t))
refreshed_is fresh t (row ∷ rows) [] (suc i) less =
    let e : (t + 1) + i ≡ t + suc i = omega arith in
    refreshed_is fresh (t + 1) rows [] i (omega arith) ∙ ap (λ u. kept (is_active_row (slice_get rows i)) (fresh u) None) e
refreshed_is fresh t (row ∷ rows) (x ∷ xs) (suc i) less =
    let e : (t + 1) + i ≡ t + suc i = omega arith in
    refreshed_is fresh (t + 1) rows xs i (omega arith) ∙ ap (λ u. kept (is_active_row (slice_get rows i)) (fresh u) (kept_at xs i)) e

-- a place that was emptied
pub emptied : {X : Type 0} (xs : List (Option X)) (i : ℕ) → kept_at (slice_set xs i None) i ≡ None
emptied [] i = refl
emptied (x ∷ xs) zero = refl
emptied (x ∷ xs) (suc i) = emptied xs i

-- a place that is empty stays so
pub stays_empty : {X : Type 0} (ts : List ℕ) (xs : List (Option X)) (i : ℕ) → kept_at xs i ≡ None → kept_at (dropped ts xs) i ≡ None
stays_empty [] xs i e = e
stays_empty (t ∷ ts) xs i e = stays_empty ts (slice_set xs t None) i (by_test (nat_eq i t) refl)
  where
    by_test : (b : Bool) → nat_eq i t ≡ b → kept_at (slice_set xs t None) i ≡ None
    by_test true same = subst (λ j. kept_at (slice_set xs t None) j ≡ None) (sym (eqb-true i t same)) (emptied xs t)
    by_test false differ = ap flattened (set-other xs t i None (eqb-false i t differ)) ∙ e

-- what was kept of the tasks that ended is gone
pub dropped_inside : {X : Type 0} (ts : List ℕ) (xs : List (Option X)) (i : ℕ) → Contains ts i → kept_at (dropped ts xs) i ≡ None
dropped_inside [] xs i inside = absurd (no_member i inside)
dropped_inside (t ∷ ts) xs i inside = by_place (where_is t i ts inside) (λ later. dropped_inside ts (slice_set xs t None) i later)
  where
    by_place : (t ≡ i) ⊎ Contains ts i → (Contains ts i → kept_at (dropped ts (slice_set xs t None)) i ≡ None) →
        kept_at (dropped ts (slice_set xs t None)) i ≡ None
    by_place (inl same) rest =
        subst (λ j. kept_at (dropped ts (slice_set xs t None)) j ≡ None) same (stays_empty ts (slice_set xs t None) t (emptied xs t))
    by_place (inr later) rest = rest later

-- of any other task the same is kept
pub dropped_outside : {X : Type 0} (ts : List ℕ) (xs : List (Option X)) (i : ℕ) → (Contains ts i → ⊥) → kept_at (dropped ts xs) i ≡ kept_at xs i
dropped_outside [] xs i outside = refl
dropped_outside (t ∷ ts) xs i outside =
    dropped_outside ts (slice_set xs t None) i (λ inside. outside (there t i ts inside))
    ∙ ap flattened (set-other xs t i None (λ same. outside (subst (λ j. Contains (t ∷ ts) j) (sym same) (here t ts))))

-- what is kept of a task after some ended
pub begins_afresh : {X : Type 0} (fresh : ℕ → X) (rows : List TaskRow) (ended : List ℕ) (before : List (Option X)) (t : ℕ) (row : TaskRow) →
    slice_get rows t ≡ Some row → BeginsAfresh fresh rows ended before t row
begins_afresh {X} fresh rows ended before t row at = record {
  dormant = λ not. is ∙ ap (λ b. kept b (fresh t) (kept_at (dropped ended before) t)) not;
  again = λ active inside. is ∙ ap (λ b. kept b (fresh t) (kept_at (dropped ended before) t)) active ∙ ap (λ x. kept true (fresh t) x) (dropped_inside ended before t inside);
  anew = λ active none. is ∙ ap (λ b. kept b (fresh t) (kept_at (dropped ended before) t)) active ∙ ap (λ x. kept true (fresh t) x) (stays_empty ended before t none);
  same = λ active outside x e. is ∙ ap (λ b. kept b (fresh t) (kept_at (dropped ended before) t)) active
      ∙ ap (λ y. kept true (fresh t) y) (dropped_outside ended before t outside ∙ e);
}
  where
    is : kept_at (refreshed fresh 0 rows (dropped ended before)) t ≡ kept (is_active_mode row.mode) (fresh t) (kept_at (dropped ended before) t)
    is = refreshed_is fresh 0 rows (dropped ended before) t (slice_get_within rows t row at)
        ∙ ap (λ u. kept (is_active_row (slice_get rows t)) (fresh u) (kept_at (dropped ended before) t)) (zero-add t)
        ∙ ap (λ r. kept (is_active_row r) (fresh t) (kept_at (dropped ended before) t)) at
