-- What the cells of a routine are given to, stretch by stretch in the order of the text: the names of a scope, a loop that
-- counts, the targets of a GET.
use Rattle.std.specs.Prelude.{◌≡◌, ℕ, ◌+◌, Bool, true, false, List, [], ◌∷◌, ◌++◌, length}
use Rattle.std.specs.List.{flat_map}
use Rattle.pearl_value.specs.declared.kind.CellKind.{CellKind}
use Rattle.pearl_tree.specs.declared.typing.Sort.TheVariants as sort
use Rattle.pearl_tree.specs.ShownStatements.{ShownStmt, OfIf, OfCase, OfRepeat, OfBegin, OfGet, ShownStmts, NoStmts, MoreStmts, ShownBranches, NoBranches, MoreBranches, ShownOtherwise, NoOtherwise, OfOtherwise}
use Rattle.pearl_tree.specs.ShownModules.{ShownBody}
use Rattle.pearl_names.specs.Lengths.{length_at}
use Rattle.pearl_names.specs.Scopes.{as_stmts}
use Rattle.pearl_names.specs.Tables.{Table}
use Rattle.pearl_program.specs.HiddenCells.{run}
use Rattle.pearl_resolve.specs.Numbers.{At, counts, loop_cells, entered, own_numbers, senses_at, after, after_all, after_branches, routine_start, in_body}
use Rattle.pearl_resolve.specs.Expressions.{Numbered}
use Rattle.pearl_resolve.specs.Cells.{scope_cells, counter_cells, get_cells}

pub data Owner : Type 0 where
  -- the names of a scope, whose control variable has this cell
  OfScope : (scope control : ℕ) → Owner
  OfLoop : (len : ℕ) → Owner
  OfTargets : Owner

pub record Stretch : Type 0 where
  pub owner : Owner
  pub first : ℕ
  pub cells : List CellKind

abbrev pub loop_stretch : (counting : Bool) → (cell len : ℕ) → List Stretch
loop_stretch true cell len = record { owner = OfLoop len; first = cell; cells = counter_cells true len } ∷ []
loop_stretch false cell len = []

-- of the scope that begins here, where so many cells stand before its own
abbrev pub scope_stretch : Table → (hidden : ℕ) → At → Stretch
scope_stretch table hidden at =
    record { owner = OfScope at.next at.cell; first = at.cell + hidden; cells = scope_cells table at.next }

abbrev mutual
  pub stretches_in : Numbered → ℕ → At → ShownStmt → List Stretch
  stretches_in numbered scope at (OfIf condition statements otherwise place) =
      stretches_in_all numbered scope at statements ++
      stretches_in_otherwise numbered scope (after_all numbered.table at statements) otherwise
  stretches_in numbered scope at (OfCase selector alternatives otherwise place) =
      stretches_in_branches numbered scope at alternatives ++
      stretches_in_otherwise numbered scope (after_branches numbered.table at alternatives) otherwise
  stretches_in numbered scope at (OfRepeat control begin step end condition declarations statements body_place place) =
      loop_stretch (counts control begin step end) at.cell (length_at numbered.table.lengths sort.Fixed place) ++
      (scope_stretch numbered.table (loop_cells control begin step end) at ∷
      stretches_in_all numbered at.next (entered numbered.table (loop_cells control begin step end) at) statements)
  stretches_in numbered scope at (OfBegin declarations statements body_place place) =
      scope_stretch numbered.table 0 at ∷ stretches_in_all numbered at.next (entered numbered.table 0 at) statements
  stretches_in numbered scope at (OfGet targets dation formats place) =
      record { owner = OfTargets; first = at.cell; cells = get_cells numbered scope targets } ∷ []
  stretches_in numbered scope at statement = []

  pub stretches_in_all : Numbered → ℕ → At → ShownStmts → List Stretch
  stretches_in_all numbered scope at NoStmts = []
  stretches_in_all numbered scope at (MoreStmts statement rest) =
      stretches_in numbered scope at statement ++ stretches_in_all numbered scope (after numbered.table at statement) rest

  pub stretches_in_branches : Numbered → ℕ → At → ShownBranches → List Stretch
  stretches_in_branches numbered scope at NoBranches = []
  stretches_in_branches numbered scope at (MoreBranches statements place rest) =
      stretches_in_all numbered scope at statements ++
      stretches_in_branches numbered scope (after_all numbered.table at statements) rest

  pub stretches_in_otherwise : Numbered → ℕ → At → ShownOtherwise → List Stretch
  stretches_in_otherwise numbered scope at NoOtherwise = []
  stretches_in_otherwise numbered scope at (OfOtherwise statements place) = stretches_in_all numbered scope at statements

-- of a routine with this body, whose scope comes next
abbrev pub routine_stretches : Numbered → At → ShownBody → List Stretch
routine_stretches numbered at body =
    scope_stretch numbered.table 0 (routine_start at) ∷
    stretches_in_all numbered at.next (in_body numbered.table at) (as_stmts body.statements)

abbrev pub cells_of : List Stretch → List CellKind
cells_of stretches = flat_map (λ (stretch : Stretch). stretch.cells) stretches

-- the cells of loops and GETs are hidden
abbrev pub hidden_in : Stretch → List ℕ
hidden_in stretch = by stretch.owner
  where
    by : Owner → List ℕ
    by (OfScope scope control) = []
    by (OfLoop len) = run stretch.first (length stretch.cells)
    by OfTargets = run stretch.first (length stretch.cells)

abbrev pub hidden_of : List Stretch → List ℕ
hidden_of stretches = flat_map hidden_in stretches

-- the numbers of a scope's names begin with its stretch
abbrev pub rows_in : Table → Stretch → List (List ℕ)
rows_in table stretch = by stretch.owner
  where
    by : Owner → List (List ℕ)
    by (OfScope scope control) = own_numbers control stretch.first (senses_at table scope) ∷ []
    by (OfLoop len) = []
    by OfTargets = []

abbrev pub rows_of : Table → List Stretch → List (List ℕ)
rows_of table stretches = flat_map (rows_in table) stretches

-- a scope has the next number, and the cells of its names; a loop has three cells
abbrev pub IsNext : Table → (next : ℕ) → Stretch → Type 0
IsNext table next stretch = by stretch.owner
  where
    by : Owner → Type 0
    by (OfScope scope control) = (scope ≡ next) × (stretch.cells ≡ scope_cells table scope)
    by (OfLoop len) = stretch.cells ≡ counter_cells true len
    by OfTargets = Unit {0}

-- each begins where the one before it ends, from these numbers of the next scope and cell to those
abbrev pub AreInARow : Table → (next cell : ℕ) → List Stretch → (end to : ℕ) → Type 0
AreInARow table next cell [] end to = (next ≡ end) × (cell ≡ to)
AreInARow table next cell (stretch ∷ rest) end to =
    IsNext table next stretch × (stretch.first ≡ cell) ×
    AreInARow table (next + length (rows_in table stretch)) (cell + length stretch.cells) rest end to

-- from here to there the text has these stretches, whose cells, hidden cells and rows of numbers are these
pub record IsDivided (table : Table) (from to : At) (stretches : List Stretch) (cells : List CellKind) (hidden : List ℕ) (numbers : List (List ℕ)) : Type 0 where
  pub row : AreInARow table from.next from.cell stretches to.next to.cell
  pub cell : cells_of stretches ≡ cells
  pub hides : hidden_of stretches ≡ hidden
  pub numbered : rows_of table stretches ≡ numbers
