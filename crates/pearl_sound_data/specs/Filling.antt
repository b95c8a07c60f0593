-- What INIT puts into the slots of variables: the constants in order, and the last of them into all slots that are left.
use Rattle.std.specs.Prelude.{ℕ, ◌+◌, List, [], ◌∷◌, ◌++◌}
use Rattle.std.specs.List.{AllByRecursion}
use Rattle.pearl_value.specs.declared.kind.Kind.{Kind}
use Rattle.pearl_value.specs.declared.cell.Cell.{Cell}
use Rattle.pearl_value.specs.Blanks.{blank_of}
use Rattle.pearl_tree.specs.ShownLiterals.{ShownConst}
use Rattle.pearl_scope.specs.Laws.{Becomes}
use Rattle.pearl_program.specs.FirstCells.{first_cells}
use Rattle.pearl_program.specs.PlainStatements.{PlainStmt, OfRenew, PlainStmts, NoStmts, MoreStmts}
use Rattle.pearl_resolve_tables.specs.Laying.{value_of, constant_in}

-- what slots of these kinds hold at first
abbrev pub filled : List Kind → List ShownConst → List Cell
filled [] constants = []
filled (kind ∷ kinds) [] = blank_of kind ∷ filled kinds []
filled (kind ∷ kinds) (last ∷ []) = constant_in kind last ∷ filled kinds (last ∷ [])
filled (kind ∷ kinds) (constant ∷ next ∷ rest) = constant_in kind constant ∷ filled kinds (next ∷ rest)

-- these in cells from this one on, each with the number of its cell
abbrev pub cells_from : ℕ → List Cell → List (ℕ × Cell)
cells_from cell [] = []
cells_from cell (value ∷ rest) = (cell, value) ∷ cells_from (cell + 1) rest

-- what a statement puts into cells as first values
abbrev pub renewed_by : PlainStmt → List (ℕ × Cell)
renewed_by (OfRenew cell values) = cells_from cell (first_cells values)
renewed_by statement = []

-- what statements do one after the other, outside those that others consist of
abbrev pub renewed : PlainStmts → List (ℕ × Cell)
renewed NoStmts = []
renewed (MoreStmts statement rest) = renewed_by statement ++ renewed rest

-- a constant suits a kind, and is put there as its own value
abbrev pub IsPut : ShownConst → Kind → Type 0
IsPut constant kind = Becomes (value_of constant) kind (constant_in kind constant)

-- so is each of them into its slots, and there are no fewer slots than constants
abbrev pub ArePut : List Kind → List ShownConst → Type 0
ArePut kinds [] = Unit {0}
ArePut [] (constant ∷ rest) = ⊥
ArePut (kind ∷ kinds) (last ∷ []) = AllByRecursion (IsPut last) (kind ∷ kinds)
ArePut (kind ∷ kinds) (constant ∷ next ∷ rest) = IsPut constant kind × ArePut kinds (next ∷ rest)
