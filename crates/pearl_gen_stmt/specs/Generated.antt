-- Which objects a program becomes, and that their code does what its tasks mean, or comes to where there is no row.
use Rattle.std.specs.Prelude.{◌≡◌, ℕ, ◌+◌, List, [], length, Option, Some, None, IfSome, slice_get}
use Rattle.pearl_value.specs.declared.kind.Kind.{Kind}
use Rattle.pearl_value.specs.declared.trap.Trap.TheVariants.{Range}
use Rattle.pearl_rules.specs.declared.action.Answer.{Answer}
use Rattle.pearl_program.specs.PlainPrograms.{PlainRoutine, PlainProcedure, PlainTask, PlainProg}
use Rattle.pearl_program.specs.Weights.{weight, weights_of}
use Rattle.pearl_program.specs.Sound.{IsSound}
use Rattle.pearl_instructions.specs.declared.instr.Instr.{Instr}
use Rattle.pearl_instructions.specs.declared.instr.Instr.TheVariants.{Return, End, Trap}
use Rattle.pearl_instructions.specs.declared.object.Code.{Code}
use Rattle.pearl_instructions.specs.declared.object.Parts.{Parts as Object}
use Rattle.pearl_instructions.specs.Objects.{routine_at}
use Rattle.pearl_instructions.specs.Rows.{begun}
use Rattle.pearl_meaning.specs.Setting.{Setting}
use Rattle.pearl_meaning.specs.Programs.{offer}
use Rattle.pearl_meaning.specs.Laws.{standing}
use Rattle.pearl_gen_expr.specs.Comes.{offers, or_lost, Comes}
use Rattle.pearl_gen_expr.specs.Tables.{HasTables}
use Rattle.pearl_gen_expr.specs.ExprCode.{code_of, Is}
use Rattle.pearl_gen_expr.specs.Calls.{CallsCarry}
use Rattle.pearl_gen_stmt.specs.StmtCode.{StmtsAt}

-- where the statements of a routine stand, as many calls standing within one another as there are procedures
abbrev pub within_program : PlainProg → Option Kind → PlainRoutine → Setting
within_program p result routine = standing p (length p.procedures) result routine

-- behind the statements of a procedure it is left, or Range is trapped where RETURNS stands
abbrev pub last_of : Option Kind → Instr
last_of None = Return
last_of (Some kind) = Trap Range

-- the depth that is stated is the routine's weight, and no shapes are stated
abbrev pub IsStated : PlainProg → PlainRoutine → Code → Type 0
IsStated p routine code = (code.depth ≡ weight (weights_of p.procedures) routine) × (code.shapes ≡ [])

-- a routine of an object: the code of its statements, this instruction behind them, and nothing behind that
pub record IsCode (p : PlainProg) (o : Object) (number : ℕ) (result : Option Kind) (routine : PlainRoutine) (last : Instr) : Type 0 where
  pub end : ℕ
  pub statements : StmtsAt (within_program p result routine) (code_of o number) None 0 routine.body end
  pub behind : Is (code_of o number) end last
  pub whole : length (code_of o number) ≡ end + 1
  pub stated : IfSome (routine_at o number) (IsStated p routine)

pub record IsGenerated (p : PlainProg) (o : Object) : Type 0 where
  pub tables : HasTables p o
  pub procedures : (number : ℕ) (procedure : PlainProcedure) → slice_get p.procedures number ≡ Some procedure →
      IsCode p o number procedure.result procedure.routine (last_of procedure.result)
  pub tasks : (t : ℕ) (task : PlainTask) → slice_get p.tasks t ≡ Some task →
      IsCode p o (length o.procedures + t) None task.routine End

-- the code of each procedure does what calling it means, or comes to where there is no row
abbrev pub ProceduresCarry : Type 0
ProceduresCarry = (p : PlainProg) (o : Object) → IsSound p → IsGenerated p o →
    (result : Option Kind) (routine : PlainRoutine) →
    CallsCarry o (within_program p result routine) (length p.procedures)

-- The code of each task comes, over any answers, to what the task does next after them, or to where there is no row.
abbrev pub TasksCome : Type 0
TasksCome = (p : PlainProg) (o : Object) → IsSound p → IsGenerated p o →
    (t : ℕ) (task : PlainTask) → slice_get p.tasks t ≡ Some task → (answers : List Answer) →
    Comes o (begun o (length o.procedures + t)) answers (or_lost (offers (offer p t answers)))
