-- For each cell, how far its kind goes on, and how far there is no reference.
use Rattle.std.specs.Prelude.{◌≡◌, ℕ, suc, ◌-◌, min, nat_le, Bool, true, if◌then◌else◌, List, [], ◌∷◌, Option, Some, None, length, slice_get}
use Rattle.pearl_value.specs.declared.kind.CellKind.{CellKind}
use Rattle.pearl_instructions.specs.Operands.{same_cell, is_reference}
use Rattle.pearl_verify.specs.declared.runs.CellRuns.{CellRuns}

-- how many at the front have this kind
abbrev pub alike : CellKind → List CellKind → ℕ
alike k [] = 0
alike k (x ∷ xs) = if same_cell k x then suc (alike k xs) else 0

-- how many at the front have the kind of the first
abbrev pub uniform_front : List CellKind → ℕ
uniform_front [] = 0
uniform_front (k ∷ ks) = suc (alike k ks)

-- how many at the front are no references
abbrev pub value_front : List CellKind → ℕ
value_front [] = 0
value_front (k ∷ ks) = if is_reference k then 0 else suc (value_front ks)

-- the answers for the whole list, for the list without its first one, and so on
abbrev pub from_each : (List CellKind → ℕ) → List CellKind → List ℕ
from_each f [] = []
from_each f (k ∷ ks) = f (k ∷ ks) ∷ from_each f ks

-- a range, as far as there are cells, goes on no further than the answer for its first cell
abbrev pub covered : ℕ → ℕ → Option ℕ → Bool
covered rest count None = true
covered rest count (Some front) = nat_le (min rest count) front

abbrev pub covers : List ℕ → ℕ → ℕ → Bool
covers fronts first count = covered (length fronts - first) count (slice_get fronts first)

pub record HoldsRuns (cells : List CellKind) (runs : CellRuns) : Type 0 where
  pub uniform : runs.uniform.items ≡ from_each uniform_front cells
  pub values : runs.values.items ≡ from_each value_front cells
