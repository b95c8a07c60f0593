-- What the code of expressions does: from any stack on it does what they mean, or comes to where there is no row.
use Rattle.std.specs.Prelude.{◌≡◌, ℕ, ◌+◌, ◌≤◌, List, length, Some, slice_get}
use Rattle.pearl_value.specs.declared.kind.Kind.{Kind}
use Rattle.pearl_value.specs.declared.cell.Cell.{Cell}
use Rattle.pearl_program.specs.declared.expression.Target.{Target}
use Rattle.pearl_program.specs.declared.expression.Bound.{Bound}
use Rattle.pearl_program.specs.PlainExpressions.{PlainExpr, PlainVariable, OfVariable, PlainExprs, PlainArguments}
use Rattle.pearl_program.specs.PlainPrograms.{PlainProcedure}
use Rattle.pearl_program.specs.Typing.{Around, HasKind, IsVariable, Suit, HaveKinds}
use Rattle.pearl_program.specs.Weights.{calls, of_expr, of_exprs, of_variable, of_arguments}
use Rattle.pearl_meaning.specs.Evaluation.{Does, bind}
use Rattle.pearl_meaning.specs.Setting.{Setting, params_of}
use Rattle.pearl_meaning.specs.Variables.{write_reference}
use Rattle.pearl_meaning.specs.Values as values
use Rattle.pearl_meaning.specs.Values.{eval, taken, eval_all, hand_over}
use Rattle.pearl_meaning.specs.Transfers.{offset}
use Rattle.pearl_instructions.specs.declared.object.Parts.{Parts as Object}
use Rattle.pearl_gen_expr.specs.Contexts.{Context, at}
use Rattle.pearl_gen_expr.specs.Carrying.{Carries}
use Rattle.pearl_gen_expr.specs.ExprCode.{code_of, writing_to, Is, ExprAt, OffsetAt, WayAt, AllAt, CallAt}
use Rattle.pearl_gen_expr.specs.Ends.{on_top, all_on_top, done, result_on_top, offset_on_top}
use Rattle.pearl_gen_expr.specs.Calls.{IsKnown}

module _ (o : Object) (c : Context) (setting : Setting) (around : Around) (below : ℕ) where
  -- an expression's code leaves its value on the operands
  abbrev pub ExprCarries : Type 0
  ExprCarries = (from to : ℕ) (e : PlainExpr) (kind : Kind) (operands : List Cell) → HasKind around e kind → of_expr calls e ≤ below →
      ExprAt setting.program (code_of o c.routine) from e to → Carries o c (on_top c to operands) (at c from operands) (eval setting e)

  -- and that of several expressions all of their values
  abbrev pub AllCarry : Type 0
  AllCarry = (from to : ℕ) (es : PlainExprs) (kinds : List Kind) (operands : List Cell) → HaveKinds around es kinds → of_exprs calls es ≤ below →
      AllAt setting.program (code_of o c.routine) from es to →
      Carries o c (all_on_top c to (length kinds) operands) (at c from operands) (eval_all setting es)

  -- a call's code leaves its result, if there is one
  abbrev pub CallCarries : Type 0
  CallCarries = (from to number : ℕ) (procedure : PlainProcedure) (arguments : PlainArguments) (operands : List Cell) →
      slice_get setting.program.procedures number ≡ Some procedure → Suit around (params_of procedure) arguments →
      number + 1 ≤ below → of_arguments calls arguments ≤ below →
      CallAt setting.program (code_of o c.routine) from number arguments to →
      Carries o c (result_on_top c to operands procedure.result) (at c from operands)
      (values.calls setting number (λ params. hand_over setting params arguments))

  -- the subscripts of a variable lead to the offset of its element
  abbrev pub OffsetCarries : Type 0
  OffsetCarries = (from to : ℕ) (target : Target) (bounds : List Bound) (subscripts : PlainExprs) (kind : Kind) (operands : List Cell) →
      let variable = OfVariable target bounds subscripts in
      IsVariable around variable kind → of_variable calls variable ≤ below → OffsetAt setting.program (code_of o c.routine) from variable to →
      Carries o c (offset_on_top c to operands bounds) (at c from operands) (offset setting variable)

  -- A variable is taken, then a value is made, and then it is written there.
  abbrev pub WriteCarries : Type 0
  WriteCarries = (from middle end : ℕ) (variable : PlainVariable) (kind : Kind) (value : Does Cell) (operands : List Cell) →
      IsVariable around variable kind → of_variable calls variable ≤ below →
      WayAt setting.program (code_of o c.routine) from variable middle →
      ((lower : List Cell) → Carries o c (on_top c end lower) (at c middle lower) value) →
      Is (code_of o c.routine) end (writing_to variable) →
      Carries o c (done c (end + 1) operands) (at c from operands)
      (bind (taken setting variable) (λ r. bind value (λ x. write_reference r x)))

-- Wherever an expression stands whose code and whose surroundings are known, its code does what it means, or comes to where there is
-- no row.
pub record CodeCarries (o : Object) (c : Context) (setting : Setting) (around : Around) (below : ℕ) : Type 0 where
  pub expr : ExprCarries o c setting around below
  pub all : AllCarry o c setting around below
  pub call : CallCarries o c setting around below
  pub offset : OffsetCarries o c setting around below
  pub write : WriteCarries o c setting around below

abbrev pub ExpressionsCarry : Type 0
ExpressionsCarry = (o : Object) (c : Context) (setting : Setting) (around : Around) (below : ℕ) → IsKnown o c setting around below →
    CodeCarries o c setting around below
