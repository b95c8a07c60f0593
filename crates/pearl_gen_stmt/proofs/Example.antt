-- A program and its object, whose code is as it is asked: REPEAT; IF TRY S THEN EXIT; ELSE CALL P; FIN; END; and P returns.
use Rattle.std.specs.Prelude.{◌≡◌, ℕ, zero, suc, ◌+◌, true, List, [], ◌∷◌, ◌++◌, map, replicate, length, Some, None, slice_get}
use Rattle.std.proofs.Common.{refl, subst}
use Rattle.std.proofs.lemmas.Option.{same_Some}
use Rattle.pearl_program.specs.PlainExpressions.{OfTry, NoArguments}
use Rattle.pearl_program.specs.PlainStatements.{OfCallOf, OfIf, OfRepeat, OfExit, OfReturn, PlainStmts, NoStmts, MoreStmts}
use Rattle.pearl_program.specs.PlainPrograms.{PlainProcedure, PlainTask, PlainProg}
use Rattle.pearl_instructions.specs.declared.instr.Instr.{Instr}
use Rattle.pearl_instructions.specs.declared.instr.Instr.TheVariants.{Jump, JumpZero, Turn, Call, Return, End, Try}
use Rattle.pearl_instructions.specs.declared.object.Code.{Code}
use Rattle.pearl_instructions.specs.declared.object.Parts.{Parts as Object}
use Rattle.pearl_instructions.specs.Valid.{unsound}
use Rattle.pearl_gen_stmt.specs.Generated.{last_of, IsCode, IsGenerated}

abbrev body : PlainStmts
body = MoreStmts (OfRepeat None None (MoreStmts (OfIf (OfTry 0) (MoreStmts OfExit NoStmts) (MoreStmts (OfCallOf 0 NoArguments) NoStmts)) NoStmts)) NoStmts

abbrev returning : PlainProcedure
returning = record { params = 0; result = None; routine = record { cells = []; body = MoreStmts (OfReturn None) NoStmts } }

abbrev trying : PlainTask
trying = record { name = 84 ∷ []; priority = 255; main = true; routine = record { cells = []; body = body } }

abbrev program : PlainProg
program = record { leaves = []; semaphores = 1 ∷ []; devices = []; formats = []; procedures = returning ∷ []; tasks = trying ∷ [] }

abbrev code : ℕ → List Instr → Code
code depth instructions = record { cells = []; depth = depth; instructions = instructions; shapes = [] }

abbrev object : Object
object = record {
  devices = [];
  semaphores = 1 ∷ [];
  leaves = [];
  formats = [];
  procedures = record { params = 0; result = None; code = code 2 (Return ∷ Return ∷ []) } ∷ [];
  tasks = record { name = record { items = 84 ∷ [] }; priority = 255; main = true; code = code 5 (Turn ∷ Try 0 ∷ JumpZero 5 ∷ Jump 7 ∷ Jump 6 ∷ Call 0 ∷ Jump 0 ∷ End ∷ []) } ∷ [];
}

procedure_code : (number : ℕ) (procedure : PlainProcedure) → slice_get program.procedures number ≡ Some procedure →
    IsCode program object number procedure.result procedure.routine (last_of procedure.result)
procedure_code zero procedure is =
    subst (λ (procedure : PlainProcedure). IsCode program object 0 procedure.result procedure.routine (last_of procedure.result)) (same_Some returning procedure is)
    (record { end = 1; statements = (1, (refl, refl), refl); behind = refl; whole = refl; stated = (refl, refl) })
procedure_code (suc number) procedure is = cc

-- IF stands at 1, its EXIT at 3, and its CALL at 5
task_code : (t : ℕ) (task : PlainTask) → slice_get program.tasks t ≡ Some task → IsCode program object (length object.procedures + t) None task.routine End
task_code zero task is =
    subst (λ (task : PlainTask). IsCode program object 1 None task.routine End) (same_Some trying task is)
    (record {
      end = 7;
      statements = (
        7,
        (
          0,
          1,
          1,
          6,
          refl,
          refl,
          refl,
          refl,
          (6, (2, 5, 4, (refl, refl), refl, (4, (7, refl, (refl, refl)), refl), (6, refl, refl, (6, (returning, refl, 5, refl, refl, refl), refl), refl)), refl),
          (refl, refl),
        ),
        refl,
      );
      behind = refl;
      whole = refl;
      stated = (refl, refl);
    })
task_code (suc t) task is = cc

-- no rule of the validator fails at any place of its routines
no_fault : map (unsound object 0) (0 ∷ 1 ∷ 2 ∷ []) ++ map (unsound object 1) (0 ∷ 1 ∷ 2 ∷ 3 ∷ 4 ∷ 5 ∷ 6 ∷ 7 ∷ 8 ∷ []) ≡ replicate 12 None
no_fault = refl

generated : IsGenerated program object
generated = record {
  tables = record { leaves = refl; semaphores = refl; devices = refl; formats = refl; procedures = refl; tasks = refl; task_cells = refl };
  procedures = procedure_code;
  tasks = task_code;
}
