-- Which cells a task or procedure has: in the order of the text one for each parameter, those of each local
-- variable, three for each loop that counts, and for each GET one for the value of each target and one for where it
-- lies.
use Rattle.std.specs.Prelude.{ℕ, Bool, true, false, List, [], ◌∷◌, ◌++◌, length, map, replicate, unwrap_or}
use Rattle.std.specs.List.{flat_map}
use Rattle.pearl_value.specs.declared.kind.Kind.{Kind}
use Rattle.pearl_value.specs.declared.kind.Kind.TheVariants.{Fixed}
use Rattle.pearl_value.specs.declared.kind.CellKind.{CellKind}
use Rattle.pearl_value.specs.declared.kind.CellKind.TheVariants.{Plain, RefTo}
use Rattle.pearl_tree.specs.declared.typing.Sort.TheVariants as sort
use Rattle.pearl_tree.specs.ShownExpressions.{ShownRef}
use Rattle.pearl_tree.specs.ShownStatements.{ShownStmt, OfIf, OfCase, OfRepeat, OfBegin, OfGet, ShownStmts, NoStmts, MoreStmts, ShownBranches, NoBranches, MoreBranches, ShownOtherwise, NoOtherwise, OfOtherwise}
use Rattle.pearl_tree.specs.ShownModules.{ShownBody}
use Rattle.pearl_names.specs.declared.scope.View.TheVariants.{Within}
use Rattle.pearl_names.specs.Lengths.{length_at}
use Rattle.pearl_names.specs.Layout.{slots_of}
use Rattle.pearl_names.specs.Scopes.{as_stmts}
use Rattle.pearl_names.specs.Tables.{Sense, OwnParameter, Table}
use Rattle.pearl_resolve.specs.Laying.{leaves_of_sense}
use Rattle.pearl_resolve.specs.Numbers.{At, counts, loop_cells, entered, after, after_all, after_branches, senses_at, in_body}
use Rattle.pearl_resolve.specs.Expressions.{Numbered, target_kind}

abbrev pub param_cell : Bool → Kind → CellKind
param_cell true kind = RefTo kind
param_cell false kind = Plain kind

abbrev pub sense_cells : Sense → List CellKind
sense_cells (OwnParameter parameter) = param_cell parameter.ident (unwrap_or parameter.kind (Fixed 31)) ∷ []
sense_cells sense = map Plain (slots_of (leaves_of_sense sense))

abbrev pub scope_cells : Table → ℕ → List CellKind
scope_cells table scope = flat_map sense_cells (senses_at table scope)

abbrev pub counter_cells : Bool → ℕ → List CellKind
counter_cells true len = replicate 3 (Plain (Fixed len))
counter_cells false len = []

abbrev pub get_cells : Numbered → ℕ → List ShownRef → List CellKind
get_cells numbered scope targets =
    map (λ target. Plain (target_kind numbered (Within scope) target)) targets ++ replicate (length targets) (Plain (Fixed 31))

abbrev mutual
  pub cells_in : Numbered → ℕ → At → ShownStmt → List CellKind
  cells_in numbered scope at (OfIf condition statements otherwise place) =
      cells_in_all numbered scope at statements ++ cells_in_otherwise numbered scope (after_all numbered.table at statements) otherwise
  cells_in numbered scope at (OfCase selector alternatives otherwise place) =
      cells_in_branches numbered scope at alternatives ++
      cells_in_otherwise numbered scope (after_branches numbered.table at alternatives) otherwise
  cells_in numbered scope at (OfRepeat control begin step end condition declarations statements body_place place) =
      counter_cells (counts control begin step end) (length_at numbered.table.lengths sort.Fixed place) ++
      (scope_cells numbered.table at.next ++
      cells_in_all numbered at.next (entered numbered.table (loop_cells control begin step end) at) statements)
  cells_in numbered scope at (OfBegin declarations statements body_place place) =
      scope_cells numbered.table at.next ++ cells_in_all numbered at.next (entered numbered.table 0 at) statements
  cells_in numbered scope at (OfGet targets dation formats place) = get_cells numbered scope targets
  cells_in numbered scope at statement = []

  pub cells_in_all : Numbered → ℕ → At → ShownStmts → List CellKind
  cells_in_all numbered scope at NoStmts = []
  cells_in_all numbered scope at (MoreStmts statement rest) =
      cells_in numbered scope at statement ++ cells_in_all numbered scope (after numbered.table at statement) rest

  pub cells_in_branches : Numbered → ℕ → At → ShownBranches → List CellKind
  cells_in_branches numbered scope at NoBranches = []
  cells_in_branches numbered scope at (MoreBranches statements place rest) =
      cells_in_all numbered scope at statements ++ cells_in_branches numbered scope (after_all numbered.table at statements) rest

  pub cells_in_otherwise : Numbered → ℕ → At → ShownOtherwise → List CellKind
  cells_in_otherwise numbered scope at NoOtherwise = []
  cells_in_otherwise numbered scope at (OfOtherwise statements place) = cells_in_all numbered scope at statements

-- of a routine with this body, whose scope comes next
abbrev pub routine_cells : Numbered → At → ShownBody → List CellKind
routine_cells numbered at body =
    scope_cells numbered.table at.next ++
    cells_in_all numbered at.next (in_body numbered.table at) (as_stmts body.statements)
