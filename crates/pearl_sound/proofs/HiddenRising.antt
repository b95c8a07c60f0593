-- The hidden cells of a routine are all different, and stand behind those of its own names.
use Rattle.std.specs.Prelude.{◌≡◌, ℕ, zero, suc, ◌+◌, ◌<◌, ◌≤◌, nat_eq, Bool, true, false, List, [], ◌∷◌, ◌++◌, length}
use Rattle.std.specs.List.{AllByRecursion, IsDistinct, sum_by}
use Rattle.std.proofs.Common.{refl, subst, arith}
use Rattle.std.proofs.lemmas.Bool.{eqb-true}
use Rattle.pearl_value.specs.declared.kind.CellKind.{CellKind}
use Rattle.pearl_tree.specs.ShownModules.{ShownBody}
use Rattle.pearl_names.specs.Scopes.{as_stmts}
use Rattle.pearl_names.specs.Tables.{Table}
use Rattle.pearl_program.specs.HiddenCells.{run, hidden_in_all}
use Rattle.pearl_resolve.specs.Laying.{cells_of_sense}
use Rattle.pearl_resolve.specs.Numbers.{At, senses_at, in_body, after_body}
use Rattle.pearl_resolve.specs.Expressions.{Numbered}
use Rattle.pearl_resolve.specs.Cells.{scope_cells}
use Rattle.pearl_resolve.specs.Resolve.{resolve_routine}
use Rattle.pearl_sound.specs.Stretches.{Owner, OfScope, Stretch, stretches_in_all, hidden_in, hidden_of, rows_in, AreInARow}
use Rattle.pearl_sound.proofs.Dividing.{routine_divides}
use Rattle.pearl_sound.proofs.Going.{scope_length}

abbrev Rises : (from : ℕ) → List ℕ → (to : ℕ) → Type 0
Rises from [] to = from ≤ to
Rises from (cell ∷ rest) to = (from ≤ cell) × Rises (cell + 1) rest to

lower : (a b : ℕ) (xs : List ℕ) (to : ℕ) → a ≤ b → Rises b xs to → Rises a xs to
lower a b [] to less rises = omega (arith, less, rises)
lower a b (cell ∷ rest) to less rises = (let low = rises.0 in omega (arith, less, low), rises.1)

joins : (a b c : ℕ) (xs ys : List ℕ) → Rises a xs b → Rises b ys c → Rises a (xs ++ ys) c
joins a b c [] ys one two = lower a b ys c one two
joins a b c (x ∷ xs) ys one two = (one.0, joins (x + 1) b c xs ys one.1 two)

run_rises : (from count to : ℕ) → from + count ≤ to → Rises from (run from count) to
run_rises from zero to fits = omega (arith, fits)
run_rises from (suc count) to fits = (omega arith, run_rises (from + 1) count to (omega (arith, fits)))

-- those of stretches that stand one behind the other
owner_rises : (owner : Owner) (first : ℕ) (cells : List CellKind) →
    Rises first (hidden_in (record { owner = owner; first = first; cells = cells })) (first + length cells)
owner_rises (OfScope scope control) first cells = omega arith
owner_rises other first cells = run_rises first (length cells) (first + length cells) (omega arith)

row_rises : (table : Table) (next cell : ℕ) (stretches : List Stretch) (end to : ℕ) → AreInARow table next cell stretches end to →
    Rises cell (hidden_of stretches) to
row_rises table next cell [] end to row = let same = row.1 in omega (arith, same)
row_rises table next cell (stretch ∷ rest) end to row =
    joins cell (cell + length stretch.cells) to (hidden_in stretch) (hidden_of rest)
    (subst (λ first. Rises first (hidden_in stretch) (first + length stretch.cells)) row.1 (owner_rises stretch.owner stretch.first stretch.cells))
    (row_rises table (next + length (rows_in table stretch)) (cell + length stretch.cells) rest end to row.2)

-- what rises is different
differ : (x y : ℕ) → x < y → nat_eq x y ≡ false
differ x y less = by (nat_eq x y) refl
  where
    by : (same : Bool) → nat_eq x y ≡ same → same ≡ false
    by true is = let equal = eqb-true x y is in absurd (omega (arith, less, equal))
    by false is = refl

all_differ : (x from : ℕ) (xs : List ℕ) (to : ℕ) → x < from → Rises from xs to → AllByRecursion (λ y. nat_eq x y ≡ false) xs
all_differ x from [] to less rises = tt
all_differ x from (y ∷ ys) to less rises =
    let low = rises.0 in (differ x y (omega (arith, less, low)), all_differ x (y + 1) ys to (omega (arith, less, low)) rises.1)

are_distinct : (from : ℕ) (xs : List ℕ) (to : ℕ) → Rises from xs to → IsDistinct nat_eq xs
unfolding IsDistinct
are_distinct from [] to rises = tt
are_distinct from (x ∷ xs) to rises = (all_differ x (x + 1) xs to (omega arith) rises.1, are_distinct (x + 1) xs to rises.1)

are_above : (from : ℕ) (xs : List ℕ) (to : ℕ) → Rises from xs to → AllByRecursion (λ cell. from ≤ cell) xs
are_above from [] to rises = tt
are_above from (x ∷ xs) to rises =
    let low = rises.0 in (low, are_above from xs to (lower from (x + 1) xs to (omega (arith, low)) rises.1))

pub hidden_apart : (numbered : Numbered) (at : At) (body : ShownBody) →
    IsDistinct nat_eq (hidden_in_all (resolve_routine numbered at body).body) ×
    AllByRecursion (λ cell. sum_by cells_of_sense (senses_at numbered.table at.next) ≤ cell)
    (hidden_in_all (resolve_routine numbered at body).body)
hidden_apart numbered at body =
    let divided = routine_divides numbered at body in
    let rest = stretches_in_all numbered at.next (in_body numbered.table at) (as_stmts body.statements) in
    let last = after_body numbered.table at body in
    let own = sum_by cells_of_sense (senses_at numbered.table at.next) in
    let behind = 0 + length (scope_cells numbered.table at.next) in
    let same = scope_length numbered.table at.next in
    let cells = hidden_in_all (resolve_routine numbered at body).body in
    let rises : Rises own cells last.cell =
    subst (λ hidden. Rises own hidden last.cell) divided.hides
    (lower own behind (hidden_of rest) last.cell (omega (arith, same))
    (row_rises numbered.table (at.next + 1) behind rest last.next last.cell divided.row.2)) in
    (are_distinct own cells last.cell rises, are_above own cells last.cell rises)
