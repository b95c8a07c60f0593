-- The rules on a statement as a whole.
use Rattle.std.specs.Prelude.{ℕ, Bool, true, false, not, List, [], ◌∷◌, ◌++◌, Option, Some, None, slice_get, filter}
use Rattle.pearl_tree.specs.declared.fault.RuleFault.{RuleFault}
use Rattle.pearl_tree.specs.declared.name.Name.{Name}
use Rattle.pearl_tree.specs.declared.rule.TheConstants as rule
use Rattle.pearl_tree.specs.declared.typing.Basic.{Basic}
use Rattle.pearl_tree.specs.Faults.{fault_if}
use Rattle.pearl_tree.specs.Names.{repeats}
use Rattle.pearl_tree.specs.ShownExpressions.{ShownExpr}
use Rattle.pearl_tree.specs.ShownStatements.{ShownStmt, OfAssign, OfExit, OfReturn, OfOnSemas}
use Rattle.pearl_names.specs.declared.scope.View.TheVariants.{Within}
use Rattle.pearl_names.specs.Lengths.{kind_of_basic}
use Rattle.pearl_names.specs.Tables.{Table}
use Rattle.pearl_check_expr.specs.Judged.{misfits}
use Rattle.pearl_check.specs.declared.limit.TheConstants as limit
use Rattle.pearl_check.specs.Routines.{RoutineSort, Task, Procedure}
use Rattle.pearl_check.specs.Views.{seen, value_kind, target_kind, is_semaphore}

-- S24: an assigned value doesn't suit its target
abbrev pub s24 : Table → (scope : ℕ) → ShownStmt → List RuleFault
s24 table scope (OfAssign target expr place) =
    fault_if (misfits (value_kind table scope expr) (target_kind table scope target)) target.place rule.S24
s24 table scope statement = []

-- S26: EXIT stands outside a loop
abbrev pub s26 : (in_loop : Bool) → ShownStmt → List RuleFault
s26 in_loop (OfExit place) = fault_if (not in_loop) place rule.S26
s26 in_loop statement = []

-- RETURN lacks a value where there is RETURNS, has one where there is none, or has one that doesn't suit
abbrev pub returns_ill : Table → (scope : ℕ) → Option Basic → Option ShownExpr → Bool
returns_ill table scope None None = false
returns_ill table scope (Some result) (Some expr) =
    misfits (value_kind table scope expr) (kind_of_basic table.lengths result)
returns_ill table scope result expr = true

abbrev pub is_misplaced_return : Table → (scope : ℕ) → RoutineSort → Option ShownExpr → Bool
is_misplaced_return table scope (Task head) expr = true
is_misplaced_return table scope (Procedure returns) expr = returns_ill table scope returns expr

-- S27: RETURN stands in a task, or doesn't suit the procedure's RETURNS
abbrev pub s27 : Table → (scope : ℕ) → RoutineSort → ShownStmt → List RuleFault
s27 table scope sort (OfReturn expr place) = fault_if (is_misplaced_return table scope sort expr) place rule.S27
s27 table scope sort statement = []

abbrev pub fault_at_name : Option Name → ℕ → List RuleFault
fault_at_name None rule = []
fault_at_name (Some name) rule = record { place = name.place; rule = rule } ∷ []

-- S31: a semaphore is named twice, or there are too many names
abbrev pub s31 : Table → (scope : ℕ) → ShownStmt → List RuleFault
s31 table scope (OfOnSemas word names place) =
    repeats rule.S31 [] (filter (λ name. is_semaphore (seen table (Within scope) name)) names) ++
    fault_at_name (slice_get names limit.NAMES_MAX) rule.S31
s31 table scope statement = []
