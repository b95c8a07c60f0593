-- Which routines of an object those of a program become.
use Rattle.std.specs.Prelude.{◌≡◌, ℕ, ◌+◌, length, Option, None}
use Rattle.pearl_value.specs.declared.kind.Kind.{Kind}
use Rattle.pearl_program.specs.declared.program.Procedure.{Procedure}
use Rattle.pearl_program.specs.declared.program.Task.{Task}
use Rattle.pearl_program.specs.PlainPrograms.{PlainRoutine, PlainProg, plain_procedure, plain_task}
use Rattle.pearl_meaning.specs.ProgramRuns.{entry_of}
use Rattle.pearl_instructions.specs.declared.instr.Instr.{Instr}
use Rattle.pearl_instructions.specs.declared.instr.Instr.TheVariants.{End}
use Rattle.pearl_instructions.specs.declared.object.Code.{Code}
use Rattle.pearl_instructions.specs.declared.object.Procedure as code_procedure
use Rattle.pearl_instructions.specs.declared.object.Task as code_task
use Rattle.pearl_gen_expr.specs.ExprCode.{Is}
use Rattle.pearl_gen_expr.specs.Tables.{head_of, code_head, code_entry}
use Rattle.pearl_gen_stmt.specs.StmtCode.{StmtsAt}
use Rattle.pearl_gen_stmt.specs.Generated.{within_program, last_of, IsStated}

-- the code of a routine: its cells, that of its statements, this instruction behind them, and nothing behind that; its
-- weight is the depth that is stated
pub record IsRoutine (p : PlainProg) (result : Option Kind) (routine : PlainRoutine) (last : Instr) (code : Code) : Type 0 where
  pub end : ℕ
  pub statements : StmtsAt (within_program p result routine) code.instructions None 0 routine.body end
  pub behind : Is code.instructions end last
  pub whole : length code.instructions ≡ end + 1
  pub stated : IsStated p routine code
  pub cells : code.cells ≡ routine.cells

-- the head of a procedure, and its code
pub record IsProcedure (p : PlainProg) (procedure : Procedure) (made : code_procedure.Procedure) : Type 0 where
  pub head : code_head made ≡ head_of (plain_procedure procedure)
  pub code : IsRoutine p (plain_procedure procedure).result (plain_procedure procedure).routine (last_of (plain_procedure procedure).result) made.code

-- the row of a task, and its code
pub record IsTask (p : PlainProg) (task : Task) (made : code_task.Task) : Type 0 where
  pub entry : code_entry made ≡ entry_of (plain_task task)
  pub code : IsRoutine p None (plain_task task).routine End made.code
