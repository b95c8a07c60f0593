-- The timetable of rows of which one is changed.
use Rattle.std.proofs.Common.{◌≡◌, ℕ, zero, suc, ◌+◌, ◌<◌, List, [], ◌∷◌, Option, Some, None, map, length, replicate, slice_get, slice_set, refl, sym, ap, ap₂, subst, ◌∙◌, arith}
use Rattle.std.proofs.lemmas.List.{map-set}
use Rattle.std.proofs.lemmas.Option.{none-some, same_Some}
use Rattle.pearl_timer.specs.Timetable.{Timetable}
use Rattle.pearl_rules.specs.declared.row.TaskRow.{TaskRow}
use Rattle.pearl_rules.specs.declared.setup.TaskEntry.{TaskEntry}
use Rattle.pearl_rules.specs.Core.{first_row}
use Rattle.pearl_kernel.specs.Timing.{timetable, series_of_plan, series_of_activation}

-- another row of a task
abbrev with_row : Timetable → ℕ → TaskRow → Timetable
with_row timer task row = record {
  continuations = slice_set timer.continuations task (series_of_plan row.continuation);
  activations = slice_set timer.activations task (series_of_activation row.activation);
}

pub timetable-set : (rows : List TaskRow) (old new : Timetable) (task : ℕ) (row : TaskRow) → old ≡ timetable rows →
    new ≡ with_row old task row → new ≡ timetable (slice_set rows task row)
timetable-set rows old new task row before e =
    e ∙ ap (λ t. with_row t task row) before ∙ sym (ap₂ (λ xs ys. record { continuations = xs; activations = ys })
    (map-set (λ (r : TaskRow). series_of_plan r.continuation) rows task row)
    (map-set (λ (r : TaskRow). series_of_activation r.activation) rows task row))

-- at the start there are no plans
none_planned : (tasks : List TaskEntry) → timetable (map first_row tasks) ≡
    record { continuations = replicate (length tasks) None; activations = replicate (length tasks) None }
none_planned [] = refl
none_planned (task ∷ tasks) = ap (λ (t : Timetable). record { continuations = None ∷ t.continuations; activations = None ∷ t.activations })
    (none_planned tasks)

pub timetable-opening : (tasks : List TaskEntry) (timer : Timetable) (rows : List TaskRow) →
    timer ≡ record { continuations = replicate (length tasks) None; activations = replicate (length tasks) None } →
    rows ≡ map first_row tasks → timer ≡ timetable rows
timetable-opening tasks timer rows empty first = empty ∙ sym (none_planned tasks) ∙ ap timetable (sym first)

-- the first rows' plans, and none of the others
abbrev first_of : {X : Type 0} → (TaskRow → Option X) → List TaskRow → ℕ → List (Option X)
first_of f [] i = []
first_of f (row ∷ rows) zero = None ∷ first_of f rows zero
first_of f (row ∷ rows) (suc i) = f row ∷ first_of f rows i

abbrev pub filled : List TaskRow → ℕ → Timetable
filled rows i = record {
  continuations = first_of (λ row. series_of_plan row.continuation) rows i;
  activations = first_of (λ row. series_of_activation row.activation) rows i;
}

none_first : {X : Type 0} (f : TaskRow → Option X) (rows : List TaskRow) → replicate (length rows) None ≡ first_of f rows 0
none_first f [] = refl
none_first f (row ∷ rows) = ap (λ xs. None ∷ xs) (none_first f rows)

one_first : {X : Type 0} (f : TaskRow → Option X) (rows : List TaskRow) (i : ℕ) (row : TaskRow) → slice_get rows i ≡ Some row →
    slice_set (first_of f rows i) i (f row) ≡ first_of f rows (suc i)
one_first f [] i row e = absurd (none-some row e)
one_first f (first ∷ rows) zero row e = ap (λ r. f r ∷ first_of f rows 0) (sym (same_Some first row e))
one_first f (first ∷ rows) (suc i) row e = ap (λ xs. f first ∷ xs) (one_first f rows i row e)

all_first : {X : Type 0} (f : TaskRow → Option X) (rows : List TaskRow) → first_of f rows (length rows) ≡ map f rows
all_first f [] = refl
all_first f (row ∷ rows) = ap (λ xs. f row ∷ xs) (all_first f rows)

size_first : {X : Type 0} (f : TaskRow → Option X) (rows : List TaskRow) (i : ℕ) → length (first_of f rows i) ≡ length rows
size_first f [] i = refl
size_first f (row ∷ rows) zero = ap suc (size_first f rows zero)
size_first f (row ∷ rows) (suc i) = ap suc (size_first f rows i)

pub filled-none : (rows : List TaskRow) (timer : Timetable) →
    timer ≡ record { continuations = replicate (length rows) None; activations = replicate (length rows) None } → timer ≡ filled rows 0
filled-none rows timer e =
    e ∙ ap₂ (λ xs ys. record { continuations = xs; activations = ys }) (none_first (λ row. series_of_plan row.continuation) rows)
    (none_first (λ row. series_of_activation row.activation) rows)

pub filled-one : (rows : List TaskRow) (old new : Timetable) (i : ℕ) (row : TaskRow) → slice_get rows i ≡ Some row → old ≡ filled rows i →
    new ≡ with_row old i row → new ≡ filled rows (i + 1)
filled-one rows old new i row at before e =
    let next : suc i ≡ i + 1 = omega arith in
    subst (λ n. new ≡ filled rows n) next
    (e ∙ ap (λ t. with_row t i row) before
    ∙ ap₂ (λ xs ys. record { continuations = xs; activations = ys }) (one_first (λ r. series_of_plan r.continuation) rows i row at)
    (one_first (λ r. series_of_activation r.activation) rows i row at))

pub filled-all : (rows : List TaskRow) (timer : Timetable) (i : ℕ) → timer ≡ filled rows i → i ≡ length rows → timer ≡ timetable rows
filled-all rows timer i e all =
    e ∙ ap (filled rows) all
    ∙ ap₂ (λ xs ys. record { continuations = xs; activations = ys }) (all_first (λ r. series_of_plan r.continuation) rows)
    (all_first (λ r. series_of_activation r.activation) rows)

pub filled-there : (rows : List TaskRow) (timer : Timetable) (i : ℕ) → timer ≡ filled rows i → i < length rows →
    (i < length timer.continuations) × (i < length timer.activations)
filled-there rows timer i e less =
    let a = ap (λ (t : Timetable). length t.continuations) e ∙ size_first (λ r. series_of_plan r.continuation) rows i in
    let b = ap (λ (t : Timetable). length t.activations) e ∙ size_first (λ r. series_of_activation r.activation) rows i in
    (omega (arith, less, a), omega (arith, less, b))
