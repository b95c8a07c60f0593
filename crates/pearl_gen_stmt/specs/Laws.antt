-- What the code of statements does: it does what they mean, or comes to where there is no row.
use Rattle.std.specs.Prelude.{◌≡◌, ℕ, ◌≤◌, [], Option, Some, IfSome}
use Rattle.pearl_program.specs.PlainStatements.{PlainStmts}
use Rattle.pearl_program.specs.Typing.{Around}
use Rattle.pearl_program.specs.SoundStatements.{AreStmts}
use Rattle.pearl_program.specs.Weights.{calls, greatest_of_all}
use Rattle.pearl_instructions.specs.declared.object.Parts.{Parts as Object}
use Rattle.pearl_instructions.specs.Objects.{result_of}
use Rattle.pearl_meaning.specs.Setting.{Setting}
use Rattle.pearl_meaning.specs.Execution.{exec_all}
use Rattle.pearl_gen_expr.specs.Contexts.{Context, at}
use Rattle.pearl_gen_expr.specs.Carrying.{Carries}
use Rattle.pearl_gen_expr.specs.ExprCode.{code_of}
use Rattle.pearl_gen_expr.specs.Ends.{ways}
use Rattle.pearl_gen_expr.specs.Calls.{IsKnown}
use Rattle.pearl_gen_stmt.specs.StmtCode.{StmtsAt}

-- Statements stand in the routine at work of a sound program, of which the object has the tables; what RETURNS says is
-- the same in both, and calls of smaller procedures are known to be right.
pub record IsPlaced (o : Object) (c : Context) (setting : Setting) (around : Around) (below : ℕ) : Type 0 where
  pub known : IsKnown o c setting around below
  pub formats : around.formats ≡ setting.program.formats
  pub result : result_of o c.routine ≡ setting.result
  pub returns : IfSome around.returns (λ returns. returns ≡ setting.result)

-- EXIT leads there, where a loop stands around
abbrev pub LeadsOut : Option ℕ → ℕ → Type 0
LeadsOut leave out = (past : ℕ) → leave ≡ Some past → past ≡ out

-- sound statements: their code does what they mean, or comes to where there is no row
abbrev pub StatementsCarry : Type 0
StatementsCarry = (o : Object) (c : Context) (setting : Setting) (around : Around) (below : ℕ) →
    IsPlaced o c setting around below → (leave : Option ℕ) (out from to : ℕ) (statements : PlainStmts) →
    LeadsOut leave out → AreStmts around statements → greatest_of_all calls statements ≤ below →
    StmtsAt setting (code_of o c.routine) leave from statements to →
    Carries o c (ways c to out setting.result) (at c from []) (exec_all setting statements)
