-- What an expression of a program says, apart from where its parts lie in memory.
use Rattle.std.specs.Prelude.{ℕ, List, [], ◌∷◌}
use Rattle.pearl_value.specs.declared.cell.Cell.{Cell}
use Rattle.pearl_value.specs.declared.cell.Cell.TheVariants as cell
use Rattle.pearl_value.specs.declared.operator.Monad.{Monad}
use Rattle.pearl_value.specs.declared.operator.Dyad.{Dyad}
use Rattle.pearl_program.specs.declared.literal.Literal.{Literal}
use Rattle.pearl_program.specs.declared.literal.Literal.TheVariants as literal
use Rattle.pearl_program.specs.declared.expression.Target.{Target}
use Rattle.pearl_program.specs.declared.expression.Bound.{Bound}
use Rattle.pearl_program.specs.declared.expression.Variable.{Variable, Row_of-Expr, end_of-Expr, more_of-Expr}
use Rattle.pearl_program.specs.declared.expression.Argument.{Argument}
use Rattle.pearl_program.specs.declared.expression.Argument as argument
use Rattle.pearl_program.specs.declared.expression.Call.{Row_of-Argument, end_of-Argument, more_of-Argument}
use Rattle.pearl_program.specs.declared.expression.Expr.{Expr}
use Rattle.pearl_program.specs.declared.expression.Expr as expr

-- the value that a literal has
abbrev pub cell_of : Literal → Cell
cell_of (literal.Fixed len value) = cell.Fixed len value
cell_of (literal.Bits len value) = cell.Bits len value
cell_of (literal.Chars text) = cell.Chars text.value
cell_of (literal.Clock time) = cell.Clock time
cell_of (literal.Span time) = cell.Span time

mutual
  pub data PlainExpr : Type 0 where
    OfLiteral : (value : Cell) → PlainExpr
    OfRead : (variable : PlainVariable) → PlainExpr
    OfMonadic : (op : Monad) (operand : PlainExpr) → PlainExpr
    OfDyadic : (op : Dyad) (left right : PlainExpr) → PlainExpr
    OfCall : (procedure : ℕ) (arguments : PlainArguments) → PlainExpr
    OfNow : PlainExpr
    OfTry : (semaphore : ℕ) → PlainExpr

  pub data PlainVariable : Type 0 where
    OfVariable : (target : Target) (bounds : List Bound) (subscripts : PlainExprs) → PlainVariable

  pub data PlainExprs : Type 0 where
    NoExprs : PlainExprs
    MoreExprs : (expr : PlainExpr) (rest : PlainExprs) → PlainExprs

  pub data PlainArgument : Type 0 where
    OfValue : (expr : PlainExpr) → PlainArgument
    OfIdent : (variable : PlainVariable) → PlainArgument

  pub data PlainArguments : Type 0 where
    NoArguments : PlainArguments
    MoreArguments : (argument : PlainArgument) (rest : PlainArguments) → PlainArguments

abbrev mutual
  pub plain_expr : Expr → PlainExpr
  plain_expr (expr.Literal value) = OfLiteral (cell_of value)
  plain_expr (expr.Read' _ target bounds _ subscripts) = OfRead (OfVariable target bounds.items (plain_row subscripts))
  plain_expr (expr.Monadic' op _ operand) = OfMonadic op (plain_expr operand)
  plain_expr (expr.Dyadic' op _ left _ right) = OfDyadic op (plain_expr left) (plain_expr right)
  plain_expr (expr.Call' _ procedure _ arguments) = OfCall procedure (plain_argument_row arguments)
  plain_expr expr.Now = OfNow
  plain_expr (expr.Try semaphore) = OfTry semaphore

  pub plain_row : {n : _} → Row_of-Expr n → PlainExprs
  plain_row end_of-Expr = NoExprs
  plain_row (more_of-Expr e rest) = MoreExprs (plain_expr e) (plain_row rest)

  pub plain_argument : Argument → PlainArgument
  plain_argument (argument.Value e) = OfValue (plain_expr e)
  plain_argument (argument.Ident' target bounds _ subscripts) = OfIdent (OfVariable target bounds.items (plain_row subscripts))

  pub plain_argument_row : {n : _} → Row_of-Argument n → PlainArguments
  plain_argument_row end_of-Argument = NoArguments
  plain_argument_row (more_of-Argument a rest) = MoreArguments (plain_argument a) (plain_argument_row rest)

-- the same over lists
abbrev pub plain_exprs : List Expr → PlainExprs
plain_exprs [] = NoExprs
plain_exprs (e ∷ rest) = MoreExprs (plain_expr e) (plain_exprs rest)

abbrev pub plain_arguments : List Argument → PlainArguments
plain_arguments [] = NoArguments
plain_arguments (a ∷ rest) = MoreArguments (plain_argument a) (plain_arguments rest)

abbrev pub plain_variable : Variable → PlainVariable
plain_variable variable = OfVariable variable.target variable.bounds.items (plain_exprs variable.subscripts.items)
