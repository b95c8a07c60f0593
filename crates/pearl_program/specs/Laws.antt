-- What holds of the kinds of expressions, of first values, and of hidden cells.
use Rattle.std.specs.Prelude.{◌≡◌, ℕ, nat_eq, Bool, false, List, [], ◌++◌, length, Option}
use Rattle.std.specs.List.{All, AllByRecursion, flat_map, list_any}
use Rattle.pearl_value.specs.declared.kind.Kind.{Kind}
use Rattle.pearl_value.specs.WellFormed.{IsValueOf}
use Rattle.pearl_program.specs.declared.expression.Target.TheVariants.{Own}
use Rattle.pearl_program.specs.PlainExpressions.{PlainExpr, PlainVariable, OfVariable, OfValue, OfIdent, PlainArguments, NoArguments, MoreArguments}
use Rattle.pearl_program.specs.PlainStatements.{PlainValues, PlainStmt, OfRenew, OfAssign, OfCallOf, OfIf, OfCase, OfRepeat, OfGet, OfTake, PlainStmts, NoStmts, MoreStmts, PlainBranches, NoBranches, MoreBranches}
use Rattle.pearl_program.specs.PlainPrograms.{PlainRoutine, PlainProg}
use Rattle.pearl_program.specs.Typing.{Around, elements, HasKind, IsVariable}
use Rattle.pearl_program.specs.HiddenCells.{run, hidden_in_all}
use Rattle.pearl_program.specs.SoundStatements.{AreFirst}
use Rattle.pearl_program.specs.Sound.{around_of, IsRoutine}
use Rattle.pearl_program.specs.FirstCells.{first_cells}

-- an expression has one kind at most, and so has a variable
abbrev pub HaveOneKind : Type 0
HaveOneKind =
    ((around : Around) (e : PlainExpr) (a b : Kind) → HasKind around e a → HasKind around e b → a ≡ b) ×
    ((around : Around) (variable : PlainVariable) (a b : Kind) → IsVariable around variable a → IsVariable around variable b → a ≡ b)

-- as many cells as are wanted, each with a value of their kind
abbrev pub FirstValuesSuit : Type 0
FirstValuesSuit = (values : PlainValues) → AreFirst values →
    (length (first_cells values) ≡ values.count) × All (IsValueOf values.kind) (first_cells values)

-- the cells of its routine in which a variable lies
abbrev pub own_cells : PlainVariable → List ℕ
own_cells (OfVariable (Own cell) bounds subscripts) = run cell (elements bounds)
own_cells variable = []

-- those of the variables that a call statement hands over for IDENT parameters
abbrev pub handed_cells : PlainArguments → List ℕ
handed_cells NoArguments = []
handed_cells (MoreArguments (OfIdent variable) rest) = own_cells variable ++ handed_cells rest
handed_cells (MoreArguments (OfValue e) rest) = handed_cells rest

-- those of the variables that a statement gives first values, assigns, reads in or hands over
abbrev mutual
  pub written_in : PlainStmt → List ℕ
  written_in (OfRenew cell values) = run cell values.count
  written_in (OfAssign target value) = own_cells target
  written_in (OfCallOf procedure arguments) = handed_cells arguments
  written_in (OfIf condition statements otherwise) = written_in_all statements ++ written_in_all otherwise
  written_in (OfCase selector alternatives otherwise) = written_in_branches alternatives ++ written_in_all otherwise
  written_in (OfRepeat counter condition statements) = written_in_all statements
  written_in (OfGet targets device format cell) = flat_map own_cells targets
  written_in (OfTake target device) = own_cells target
  written_in statement = []

  pub written_in_all : PlainStmts → List ℕ
  written_in_all NoStmts = []
  written_in_all (MoreStmts statement rest) = written_in statement ++ written_in_all rest

  pub written_in_branches : PlainBranches → List ℕ
  written_in_branches NoBranches = []
  written_in_branches (MoreBranches statements rest) = written_in_all statements ++ written_in_branches rest

-- no variable that a routine's statements write or hand over lies in a hidden cell of the routine, nor does any other one
-- that is a variable there, whatever loops are around
abbrev pub VariablesAreNotHidden : Type 0
VariablesAreNotHidden = (p : PlainProg) (count : ℕ) (returns : Option (Option Kind)) (routine : PlainRoutine) →
    IsRoutine p count returns routine →
    AllByRecursion (λ cell. list_any (nat_eq cell) (hidden_in_all routine.body) ≡ false) (written_in_all routine.body) ×
    ((controls : List ℕ) (in_loop : Bool) (variable : PlainVariable) (kind : Kind) →
    IsVariable (record (around_of p routine returns) { controls = controls; in_loop = in_loop }) variable kind →
    AllByRecursion (λ cell. list_any (nat_eq cell) (hidden_in_all routine.body) ≡ false) (own_cells variable))
