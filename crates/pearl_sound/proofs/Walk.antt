-- A walk over statements: what holds of the parts of each passage of a text holds of the whole. And what a passage brings.
use Rattle.std.specs.Prelude.{◌≡◌, ℕ, ◌+◌, List, [], ◌++◌, length}
use Rattle.std.proofs.Common.{refl}
use Rattle.pearl_value.specs.declared.kind.CellKind.{CellKind}
use Rattle.pearl_format.specs.declared.item.Item.{Item}
use Rattle.pearl_tree.specs.ShownStatements.{ShownStmt, OfIf, OfCase, OfRepeat, OfBegin, ShownStmts, NoStmts, MoreStmts, ShownBranches, NoBranches, MoreBranches, ShownOtherwise, NoOtherwise, OfOtherwise}
use Rattle.pearl_names.specs.Scopes.{Scope, scopes_in, scopes_in_all, scopes_in_branches, scopes_in_otherwise, stmt_scopes, all_scopes, branch_scopes, otherwise_scopes}
use Rattle.pearl_names.proofs.Offered.{length-stmt_scopes, length-all_scopes, length-branch_scopes}
use Rattle.pearl_scope.specs.declared.places.Spot.{Spot}
use Rattle.pearl_scope.specs.Placed.{Placed, placed_stmt, placed_all, placed_branches, placed_otherwise}
use Rattle.pearl_program.specs.Typing.{Around}
use Rattle.pearl_resolve.specs.Numbers.{At, after, after_all, after_branches, after_otherwise, numbers_in, numbers_in_all, numbers_in_branches, numbers_in_otherwise}
use Rattle.pearl_resolve.specs.Expressions.{Numbered}
use Rattle.pearl_resolve.specs.Cells.{cells_in, cells_in_all, cells_in_branches, cells_in_otherwise}
use Rattle.pearl_resolve.specs.Resolve.{formats_in, formats_in_all, formats_in_branches, formats_in_otherwise}
use Rattle.pearl_sound.specs.Sights.{Sight, sights_in, sights_in_all, sights_in_branches, sights_in_otherwise}
use Rattle.pearl_sound.specs.Stretches.{Stretch, stretches_in, stretches_in_all, stretches_in_branches, stretches_in_otherwise}

-- a statement, some statements, the alternatives of CASE, or what ELSE or OUT has
pub data Passage : Type 0 where
  One : (statement : ShownStmt) → Passage
  Each : (statements : ShownStmts) → Passage
  Branches : (branches : ShownBranches) → Passage
  Otherwise : (otherwise : ShownOtherwise) → Passage

-- P of the passages within a statement
abbrev pub PartsKeep : (Passage → Type 0) → ShownStmt → Type 0
PartsKeep P (OfIf condition statements otherwise place) = P (Each statements) × P (Otherwise otherwise)
PartsKeep P (OfCase selector alternatives otherwise place) = P (Branches alternatives) × P (Otherwise otherwise)
PartsKeep P (OfRepeat control begin step end condition declarations statements body_place place) = P (Each statements)
PartsKeep P (OfBegin declarations statements body_place place) = P (Each statements)
PartsKeep P statement = Unit {0}

-- where its parts keep P, the whole does
pub record Keeps (P : Passage → Type 0) : Type 0 where
  pub no_statement : P (Each NoStmts)
  pub no_branch : P (Branches NoBranches)
  pub no_otherwise : P (Otherwise NoOtherwise)
  pub more : (s : ShownStmt) (rest : ShownStmts) → P (One s) → P (Each rest) → P (Each (MoreStmts s rest))
  pub branch : (statements : ShownStmts) (place : ℕ) (rest : ShownBranches) → P (Each statements) → P (Branches rest) →
      P (Branches (MoreBranches statements place rest))
  pub otherwise : (statements : ShownStmts) (place : ℕ) → P (Each statements) → P (Otherwise (OfOtherwise statements place))
  pub statement : (s : ShownStmt) → PartsKeep P s → P (One s)

module _ (P : Passage → Type 0) (keeps : Keeps P) where
  mutual
    one : (s : ShownStmt) → P (One s)
    one (OfIf condition statements otherwise place) =
        keeps.statement (OfIf condition statements otherwise place) (each statements, other otherwise)
    one (OfCase selector alternatives otherwise place) =
        keeps.statement (OfCase selector alternatives otherwise place) (branches alternatives, other otherwise)
    one (OfRepeat control begin step end condition declarations statements body_place place) =
        keeps.statement (OfRepeat control begin step end condition declarations statements body_place place) (each statements)
    one (OfBegin declarations statements body_place place) =
        keeps.statement (OfBegin declarations statements body_place place) (each statements)
    one statement = keeps.statement statement tt

    each : (statements : ShownStmts) → P (Each statements)
    each NoStmts = keeps.no_statement
    each (MoreStmts s rest) = keeps.more s rest (one s) (each rest)

    branches : (alternatives : ShownBranches) → P (Branches alternatives)
    branches NoBranches = keeps.no_branch
    branches (MoreBranches statements place rest) = keeps.branch statements place rest (each statements) (branches rest)

    other : (otherwise : ShownOtherwise) → P (Otherwise otherwise)
    other NoOtherwise = keeps.no_otherwise
    other (OfOtherwise statements place) = keeps.otherwise statements place (each statements)

  pub walk : (passage : Passage) → P passage
  walk (One s) = one s
  walk (Each statements) = each statements
  walk (Branches alternatives) = branches alternatives
  walk (Otherwise otherwise) = other otherwise

-- what a passage brings, wherever it stands
pub record Pieces : Type 0 where
  pub after : At → At
  pub scopes : ℕ
  pub formats : List (List Item)
  pub numbers : At → List (List ℕ)
  pub cells : (scope : ℕ) → At → List CellKind
  pub stretches : (scope : ℕ) → At → List Stretch
  pub sights : Around → (scope : ℕ) → At → List Sight
  pub list : (types scope next : ℕ) → List Scope
  pub places : Spot → (next : ℕ) → List Placed

abbrev pub nothing : Pieces
nothing = record {
  after = λ at. at;
  scopes = 0;
  formats = [];
  numbers = λ at. [];
  cells = λ scope at. [];
  stretches = λ scope at. [];
  sights = λ around scope at. [];
  list = λ types scope next. [];
  places = λ spot next. [];
}

-- one behind the other
abbrev pub in_turn : Pieces → Pieces → Pieces
in_turn one two = record {
  after = λ at. two.after (one.after at);
  scopes = one.scopes + two.scopes;
  formats = one.formats ++ two.formats;
  numbers = λ at. one.numbers at ++ two.numbers (one.after at);
  cells = λ scope at. one.cells scope at ++ two.cells scope (one.after at);
  stretches = λ scope at. one.stretches scope at ++ two.stretches scope (one.after at);
  sights = λ around scope at. one.sights around scope at ++ two.sights around scope (one.after at);
  list = λ types scope next. one.list types scope next ++ two.list types scope (next + one.scopes);
  places = λ spot next. one.places spot next ++ two.places spot (next + one.scopes);
}

module _ (numbered : Numbered) where
  abbrev pub pieces : Passage → Pieces
  pieces (One s) = record {
    after = λ at. after numbered.table at s;
    scopes = scopes_in s;
    formats = formats_in s;
    numbers = λ at. numbers_in numbered.table at s;
    cells = λ scope at. cells_in numbered scope at s;
    stretches = λ scope at. stretches_in numbered scope at s;
    sights = λ around scope at. sights_in numbered around scope at s;
    list = λ types scope next. stmt_scopes types scope next s;
    places = λ spot next. placed_stmt spot next s;
  }
  pieces (Each statements) = record {
    after = λ at. after_all numbered.table at statements;
    scopes = scopes_in_all statements;
    formats = formats_in_all statements;
    numbers = λ at. numbers_in_all numbered.table at statements;
    cells = λ scope at. cells_in_all numbered scope at statements;
    stretches = λ scope at. stretches_in_all numbered scope at statements;
    sights = λ around scope at. sights_in_all numbered around scope at statements;
    list = λ types scope next. all_scopes types scope next statements;
    places = λ spot next. placed_all spot next statements;
  }
  pieces (Branches branches) = record {
    after = λ at. after_branches numbered.table at branches;
    scopes = scopes_in_branches branches;
    formats = formats_in_branches branches;
    numbers = λ at. numbers_in_branches numbered.table at branches;
    cells = λ scope at. cells_in_branches numbered scope at branches;
    stretches = λ scope at. stretches_in_branches numbered scope at branches;
    sights = λ around scope at. sights_in_branches numbered around scope at branches;
    list = λ types scope next. branch_scopes types scope next branches;
    places = λ spot next. placed_branches spot next branches;
  }
  pieces (Otherwise otherwise) = record {
    after = λ at. after_otherwise numbered.table at otherwise;
    scopes = scopes_in_otherwise otherwise;
    formats = formats_in_otherwise otherwise;
    numbers = λ at. numbers_in_otherwise numbered.table at otherwise;
    cells = λ scope at. cells_in_otherwise numbered scope at otherwise;
    stretches = λ scope at. stretches_in_otherwise numbered scope at otherwise;
    sights = λ around scope at. sights_in_otherwise numbered around scope at otherwise;
    list = λ types scope next. otherwise_scopes types scope next otherwise;
    places = λ spot next. placed_otherwise spot next otherwise;
  }

  -- what is said of the pieces alone, and holds of two passages one behind the other
  pub summed : (Q : Pieces → Type 0) → Q nothing →
      ((one two : Passage) → Q (pieces one) → Q (pieces two) → Q (in_turn (pieces one) (pieces two))) →
      ((s : ShownStmt) → PartsKeep (λ passage. Q (pieces passage)) s → Q (pieces (One s))) → Keeps (λ passage. Q (pieces passage))
  summed Q none join statement = record {
    no_statement = none;
    no_branch = none;
    no_otherwise = none;
    more = λ s rest. join (One s) (Each rest);
    branch = λ statements place rest. join (Each statements) (Branches rest);
    otherwise = λ statements place kept. kept;
    statement = statement;
  }

  pub counted : (passage : Passage) (types scope next : ℕ) → length ((pieces passage).list types scope next) ≡ (pieces passage).scopes
  counted (One s) types scope next = length-stmt_scopes types scope next s
  counted (Each statements) types scope next = length-all_scopes types scope next statements
  counted (Branches branches) types scope next = length-branch_scopes types scope next branches
  counted (Otherwise NoOtherwise) types scope next = refl
  counted (Otherwise (OfOtherwise statements place)) types scope next = length-all_scopes types scope next statements
