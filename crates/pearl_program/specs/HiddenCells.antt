-- Which cells of a routine are hidden: those of each loop that counts, for its control variable, its step and its limit,
-- and those of each GET, two for each target.
use Rattle.std.specs.Prelude.{ℕ, zero, suc, ◌+◌, ◌*◌, List, [], ◌∷◌, ◌++◌, length, Option, Some, None}
use Rattle.pearl_program.specs.PlainStatements.{PlainCounter, PlainStmt, OfIf, OfCase, OfRepeat, OfGet, PlainStmts, NoStmts, MoreStmts, PlainBranches, NoBranches, MoreBranches}

-- so many cells from this one on
abbrev pub run : (cell count : ℕ) → List ℕ
run cell zero = []
run cell (suc count) = cell ∷ run (cell + 1) count

abbrev pub counter_cells : Option PlainCounter → List ℕ
counter_cells None = []
counter_cells (Some counter) = run counter.cell 3

abbrev mutual
  pub hidden_in : PlainStmt → List ℕ
  hidden_in (OfIf condition statements otherwise) = hidden_in_all statements ++ hidden_in_all otherwise
  hidden_in (OfCase selector alternatives otherwise) = hidden_in_branches alternatives ++ hidden_in_all otherwise
  hidden_in (OfRepeat counter condition statements) = counter_cells counter ++ hidden_in_all statements
  hidden_in (OfGet targets device format cell) = run cell (2 * length targets)
  hidden_in statement = []

  pub hidden_in_all : PlainStmts → List ℕ
  hidden_in_all NoStmts = []
  hidden_in_all (MoreStmts statement rest) = hidden_in statement ++ hidden_in_all rest

  pub hidden_in_branches : PlainBranches → List ℕ
  hidden_in_branches NoBranches = []
  hidden_in_branches (MoreBranches statements rest) = hidden_in_all statements ++ hidden_in_branches rest
