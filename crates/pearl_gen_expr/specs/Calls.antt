-- When the code of procedures does what calls of them mean.
use Rattle.std.specs.Prelude.{◌≡◌, ℕ, ◌+◌, ◌<◌, List, length, map, Some, slice_get}
use Rattle.pearl_value.specs.declared.cell.Cell.{Cell}
use Rattle.pearl_program.specs.PlainPrograms.{PlainProcedure, PlainProg}
use Rattle.pearl_program.specs.Typing.{Around}
use Rattle.pearl_program.specs.Sound.{IsSound, signature_of}
use Rattle.pearl_meaning.specs.Setting.{Setting}
use Rattle.pearl_instructions.specs.declared.instr.Instr.TheVariants.{Call}
use Rattle.pearl_instructions.specs.declared.object.Parts.{Parts as Object}
use Rattle.pearl_instructions.specs.Stacks.{cell_kinds}
use Rattle.pearl_gen_expr.specs.Contexts.{Context, at, pushed}
use Rattle.pearl_gen_expr.specs.Carrying.{Carries}
use Rattle.pearl_gen_expr.specs.Tables.{HasTables}
use Rattle.pearl_gen_expr.specs.ExprCode.{code_of, Is}
use Rattle.pearl_gen_expr.specs.Ends.{result_on_top}

-- The code of each procedure below this number does what calling it means, whatever calls it: the arguments lie on the caller's
-- operands, and then the result does, if there is one.
pub record CallsCarry (o : Object) (setting : Setting) (below : ℕ) : Type 0 where
  pub called : (number : ℕ) → number < below → (procedure : PlainProcedure) → slice_get setting.program.procedures number ≡ Some procedure →
      (c : Context) (place : ℕ) → Is (code_of o c.routine) place (Call number) →
      (arguments operands : List Cell) → length arguments ≡ procedure.params →
      Carries o c (result_on_top c (place + 1) operands procedure.result) (at c place (pushed arguments operands)) (setting.call number arguments)

-- what stands around an expression is of this program
pub record IsAroundIn (p : PlainProg) (around : Around) : Type 0 where
  pub leaves : around.leaves ≡ p.leaves
  pub procedures : around.procedures ≡ map signature_of p.procedures

-- An expression or a statement stands in a sound program, of which the object has the tables; it is in the routine at work, and calls
-- of smaller procedures are known to be right.
pub record IsKnown (o : Object) (c : Context) (setting : Setting) (around : Around) (below : ℕ) : Type 0 where
  pub sound : IsSound setting.program
  pub tables : HasTables setting.program o
  pub stands : IsAroundIn setting.program around
  pub cells : cell_kinds o c.routine ≡ around.cells
  pub calls : CallsCarry o setting below
