-- What lists of statements and branches show, as those within a statement.
use Rattle.std.specs.Prelude.{List, [], ◌∷◌, map, Option, Some, None}
use Rattle.pearl_tree.specs.declared.statement.Stmt.{Stmt}
use Rattle.pearl_tree.specs.declared.statement.Branch.{Branch}
use Rattle.pearl_tree.specs.ShownStatements.{ShownStmts, ShownBranches, NoBranches, MoreBranches, ShownOtherwise, NoOtherwise, OfOtherwise, shown_stmt}
use Rattle.pearl_names.specs.Scopes.{as_stmts}

abbrev pub stmts_shown : List Stmt → ShownStmts
stmts_shown statements = as_stmts (map shown_stmt statements)

abbrev pub branches_shown : List Branch → ShownBranches
branches_shown [] = NoBranches
branches_shown (branch ∷ rest) = MoreBranches (stmts_shown branch.statements.items.items) branch.place (branches_shown rest)

abbrev pub otherwise_shown : Option Branch → ShownOtherwise
otherwise_shown None = NoOtherwise
otherwise_shown (Some branch) = OfOtherwise (stmts_shown branch.statements.items.items) branch.place
