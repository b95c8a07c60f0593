-- Where the code of expressions and statements of a program arrives, in a valid object.
use Rattle.std.specs.Prelude.{◌≡◌, ℕ, ◌+◌, Bool, List, [], length, Option, Some, None, slice_get}
use Rattle.pearl_value.specs.declared.kind.Kind.{Kind}
use Rattle.pearl_value.specs.declared.cell.Cell.{Cell}
use Rattle.pearl_rules.specs.declared.action.Answer.{Answer}
use Rattle.pearl_stack.specs.Frames.{Frame}
use Rattle.pearl_program.specs.declared.expression.Target.{Target}
use Rattle.pearl_program.specs.declared.expression.Bound.{Bound}
use Rattle.pearl_program.specs.PlainExpressions.{PlainExpr, OfVariable, PlainExprs, PlainArguments}
use Rattle.pearl_program.specs.PlainStatements.{PlainStmts}
use Rattle.pearl_program.specs.PlainPrograms.{PlainRoutine, PlainProcedure, PlainTask, PlainProg}
use Rattle.pearl_program.specs.Typing.{Around, HasKind, IsVariable, Suit}
use Rattle.pearl_program.specs.SoundStatements.{AreStmts}
use Rattle.pearl_program.specs.Sound.{IsSound, around_of}
use Rattle.pearl_instructions.specs.declared.object.Parts.{Parts as Object}
use Rattle.pearl_instructions.specs.Lawful.{IsObject}
use Rattle.pearl_instructions.specs.Valid.{IsValid}
use Rattle.pearl_instructions.specs.Stacks.{IsStack}
use Rattle.pearl_meaning.specs.Frames.{Store}
use Rattle.pearl_meaning.specs.Evaluation.{Does}
use Rattle.pearl_meaning.specs.Setting.{Setting, params_of}
use Rattle.pearl_meaning.specs.Values as values
use Rattle.pearl_meaning.specs.Values.{eval, hand_over}
use Rattle.pearl_meaning.specs.Transfers.{offset}
use Rattle.pearl_meaning.specs.Execution.{exec_all}
use Rattle.pearl_meaning.specs.Hearing.{HeardIn}
use Rattle.pearl_gen_expr.specs.Comes.{Aim, Comes}
use Rattle.pearl_gen_expr.specs.Contexts.{Context, at, IsStoreOf}
use Rattle.pearl_gen_expr.specs.Carrying.{End, meant}
use Rattle.pearl_gen_expr.specs.ExprCode.{code_of, ExprAt, OffsetAt, CallAt}
use Rattle.pearl_gen_expr.specs.Ends.{on_top, result_on_top, offset_on_top, ways}
use Rattle.pearl_gen_stmt.specs.StmtCode.{StmtsAt}
use Rattle.pearl_gen_stmt.specs.Generated.{within_program, IsGenerated}
use Rattle.pearl_gen_stmt.specs.Laws.{LeadsOut}

-- the same, where the stack that is reached is one of the object, and no answer is left there
abbrev pub at_stack : Object → Aim → Aim
at_stack o aim = record aim { Reached = λ frames rest. aim.Reached frames rest × IsStack o frames × (rest ≡ []) }

-- From a stack of the object the code does what is meant, each row being there. Over any answers that the part can have
-- it arrives at the part's end, which is a stack of the object again, or offers what the part needs, or the trap.
pub record Arrives (p : PlainProg) (o : Object) (c : Context) {X : Type 0} (end : End X) (from : Store → List Frame)
    (does : Does X) : Type 0 where
  pub over : (store : Store) (answers : List Answer) → IsStoreOf o c store → IsStack o (from store) →
      HeardIn p does store answers →
      Comes o (from store) answers (at_stack o (meant o c end answers (does store answers)))

-- a routine of the program, by its number in the object: that of a procedure, with what RETURNS says, or that of a task
abbrev pub IsRoutineOf : PlainProg → Object → (number : ℕ) → (returns : Option (Option Kind)) → PlainRoutine → Type 0
IsRoutineOf p o number (Some result) routine =
    (procedure : PlainProcedure) × (slice_get p.procedures number ≡ Some procedure) ×
    (procedure.result ≡ result) × (procedure.routine ≡ routine)
IsRoutineOf p o number None routine =
    (t : ℕ) × (task : PlainTask) × (slice_get p.tasks t ≡ Some task) ×
    (number ≡ length o.procedures + t) × (task.routine ≡ routine)

abbrev pub result_of : Option (Option Kind) → Option Kind
result_of None = None
result_of (Some result) = result

-- what stands around a part of a routine, within loops with these control variables or within none
abbrev pub around_part : PlainProg → PlainRoutine → Option (Option Kind) → (controls : List ℕ) → (in_loop : Bool) →
    Around
around_part p routine returns controls in_loop =
    record (around_of p routine returns) { controls = controls; in_loop = in_loop }

module _ (p : PlainProg) (o : Object) (c : Context) (setting : Setting) (around : Around) where
  -- an expression's code arrives behind it, with its value on the operands
  abbrev pub ExprArrives : Type 0
  ExprArrives = (from to : ℕ) (e : PlainExpr) (kind : Kind) (operands : List Cell) → HasKind around e kind →
      ExprAt p (code_of o c.routine) from e to →
      Arrives p o c (on_top c to operands) (at c from operands) (eval setting e)

  -- a call's code arrives behind the call, with the result on the operands, if there is one
  abbrev pub CallArrives : Type 0
  CallArrives = (from to number : ℕ) (procedure : PlainProcedure) (arguments : PlainArguments) (operands : List Cell) →
      slice_get p.procedures number ≡ Some procedure → Suit around (params_of procedure) arguments →
      CallAt p (code_of o c.routine) from number arguments to →
      Arrives p o c (result_on_top c to operands procedure.result) (at c from operands)
      (values.calls setting number (λ params. hand_over setting params arguments))

  -- that of a variable's subscripts behind them, with the offset of an element on the operands
  abbrev pub OffsetArrives : Type 0
  OffsetArrives = (from to : ℕ) (target : Target) (bounds : List Bound) (subscripts : PlainExprs) (kind : Kind)
      (operands : List Cell) → let variable = OfVariable target bounds subscripts in
      IsVariable around variable kind → OffsetAt p (code_of o c.routine) from variable to →
      Arrives p o c (offset_on_top c to operands bounds) (at c from operands) (offset setting variable)

  -- that of statements behind them, or by EXIT behind the innermost loop, or by RETURN behind the call
  abbrev pub StatementsArrive : Type 0
  StatementsArrive = (leave : Option ℕ) (out from to : ℕ) (statements : PlainStmts) →
      LeadsOut leave out → AreStmts around statements → StmtsAt setting (code_of o c.routine) leave from statements to →
      Arrives p o c (ways c to out setting.result) (at c from []) (exec_all setting statements)

-- Wherever sound parts of a routine stand, their code arrives at what they mean, each row being there.
pub record PartsArrive (p : PlainProg) (o : Object) (c : Context) (setting : Setting) (around : Around) : Type 0 where
  pub expr : ExprArrives p o c setting around
  pub call : CallArrives p o c setting around
  pub offset : OffsetArrives p o c setting around
  pub statements : StatementsArrive p o c setting around

-- in a valid object that a sound program becomes, in each of its routines
abbrev pub CodeArrives : Type 0
CodeArrives = (p : PlainProg) (o : Object) → IsSound p → IsGenerated p o → IsValid o → IsObject o →
    (c : Context) (returns : Option (Option Kind)) (routine : PlainRoutine) →
    IsRoutineOf p o c.routine returns routine → (controls : List ℕ) (in_loop : Bool) →
    PartsArrive p o c (within_program p (result_of returns) routine) (around_part p routine returns controls in_loop)

-- each stack of an object is that of a context with a store
abbrev pub StacksStand : Type 0
StacksStand = (o : Object) (frames : List Frame) → IsStack o frames →
    (c : Context) × (place : ℕ) × (operands : List Cell) × (store : Store) ×
    (frames ≡ at c place operands store) × IsStoreOf o c store
