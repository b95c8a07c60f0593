-- Lists that are made place by place.
use Rattle.std.proofs.Common.{◌≡◌, ◌≢◌, ℕ, zero, suc, ◌+◌, ◌<◌, ◌≤◌, List, [], ◌∷◌, Option, Some, None, length, slice_get, slice_set, refl, sym, ap, ap₂, ◌∙◌, arith, add-zero}
use Rattle.pearl_rules.specs.declared.row.TaskRow.{TaskRow}
use Rattle.pearl_rules.specs.Core.{is_active_row}
use Rattle.pearl_rules.specs.Runs.{kept, refreshed, kept_at}
use Rattle.pearl_machine.specs.Parts.{table}

pub table_alike : {X : Type 0} (n : ℕ) (f g : ℕ → X) → ((i : ℕ) → i < n → f i ≡ g i) → table n f ≡ table n g
table_alike zero f g same = refl
table_alike (suc n) f g same =
    ap₂ (λ x xs. x ∷ xs) (same 0 (omega arith)) (table_alike n (λ i. f (suc i)) (λ i. g (suc i)) (λ i less. same (suc i) (omega arith)))

pub table-length : {X : Type 0} (n : ℕ) (f : ℕ → X) → length (table n f) ≡ n
table-length zero f = refl
table-length (suc n) f = ap suc (table-length n (λ i. f (suc i)))

-- what stands at a place
pub table_kept : {X : Type 0} (n : ℕ) (f : ℕ → Option X) (i : ℕ) → (n ≤ i → f i ≡ None) → kept_at (table n f) i ≡ f i
table_kept zero f i past = sym (past (omega arith))
table_kept (suc n) f zero past = refl
table_kept (suc n) f (suc i) past = table_kept n (λ j. f (suc j)) i (λ less. past (omega arith))

-- where one place differs
pub table_written : {X : Type 0} (n : ℕ) (f g : ℕ → X) (t : ℕ) (x : X) → g t ≡ x → ((i : ℕ) → t ≢ i → g i ≡ f i) →
    table n g ≡ slice_set (table n f) t x
table_written zero f g t x here elsewhere = refl
table_written (suc n) f g zero x here elsewhere =
    ap₂ (λ y ys. y ∷ ys) here
    (table_alike n (λ i. g (suc i)) (λ i. f (suc i)) (λ i less. elsewhere (suc i) (λ e. let no : ⊥ = omega arith in no)))
table_written (suc n) f g (suc t) x here elsewhere =
    ap₂ (λ y ys. y ∷ ys) (elsewhere 0 (λ e. let no : ⊥ = omega arith in no))
    (table_written n (λ i. f (suc i)) (λ i. g (suc i)) t x here (λ i other. elsewhere (suc i) (λ e. other (omega arith))))

-- what is begun afresh, place by place
pub table_refreshed : {X : Type 0} (f : ℕ → X) (b : ℕ) (rows : List TaskRow) (xs : List (Option X)) →
    refreshed f b rows xs ≡ table (length rows) (λ i. kept (is_active_row (slice_get rows i)) (f (b + i)) (kept_at xs i))
table_refreshed f b [] xs = refl
table_refreshed f b (row ∷ rows) [] =
    ap₂ (λ y ys. y ∷ ys) (ap (λ n. kept (is_active_row (Some row)) (f n) None) (sym (add-zero b)))
    (table_refreshed f (b + 1) rows [] ∙ table_alike (length rows) _ _ (λ i less.
    let e : (b + 1) + i ≡ b + suc i = omega arith in ap (λ n. kept (is_active_row (slice_get rows i)) (f n) (kept_at [] i)) e))
table_refreshed f b (row ∷ rows) (x ∷ xs) =
    ap₂ (λ y ys. y ∷ ys) (ap (λ n. kept (is_active_row (Some row)) (f n) x) (sym (add-zero b)))
    (table_refreshed f (b + 1) rows xs ∙ table_alike (length rows) _ _ (λ i less.
    let e : (b + 1) + i ≡ b + suc i = omega arith in ap (λ n. kept (is_active_row (slice_get rows i)) (f n) (kept_at xs i)) e))
