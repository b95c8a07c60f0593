-- A program, the object that it becomes, and their runs: REPEAT; CALL P; EXIT; END; and P returns.
use Rattle.std.specs.Prelude.{◌≡◌, ℕ, zero, suc, ◌+◌, ◌==◌, Bool, true, false, if◌then◌else◌, List, [], ◌∷◌, length, map, Option, Some, None, slice_get, nat_eq, bytes_eq}
use Rattle.std.specs.List.{IsDistinct}
use Rattle.std.proofs.Common.{inl, refl, sym, ap, ◌∙◌, subst, arith}
use Rattle.std.proofs.lemmas.Bool.{true≢false}
use Rattle.std.proofs.lemmas.Option.{same_Some}
use Rattle.pearl_value.specs.declared.kind.Kind.TheVariants.{Clock}
use Rattle.pearl_rules.specs.declared.entry.Entry.TheVariants.{Run}
use Rattle.pearl_rules.specs.declared.event.Event.TheVariants.{Start, End as Ended}
use Rattle.pearl_rules.specs.Core.{Report, Happened}
use Rattle.pearl_rules.specs.Effect.{effect}
use Rattle.pearl_rules.specs.Runs.{source_step, machine_step}
use Rattle.pearl_program.specs.PlainExpressions.{NoArguments}
use Rattle.pearl_program.specs.PlainStatements.{OfCallOf, OfRepeat, OfExit, OfReturn, PlainStmts, NoStmts, MoreStmts}
use Rattle.pearl_program.specs.PlainPrograms.{PlainLeaf, PlainProcedure, PlainTask, PlainProg}
use Rattle.pearl_program.specs.Sound.{IsProcedure, IsTask, IsSound}
use Rattle.pearl_instructions.specs.declared.instr.Instr.{Instr}
use Rattle.pearl_instructions.specs.declared.instr.Instr.TheVariants.{Jump, Turn, Call, Return, End}
use Rattle.pearl_instructions.specs.declared.object.Code.{Code}
use Rattle.pearl_instructions.specs.declared.object.Parts.{Parts as Object}
use Rattle.pearl_instructions.specs.Lawful.{IsObject}
use Rattle.pearl_instructions.specs.Valid.{unsound, IsValid}
use Rattle.pearl_instructions.proofs.Offered.{letter_is_id}
use Rattle.pearl_meaning.specs.Programs.{offer}
use Rattle.pearl_meaning.specs.ProgramRuns.{source_run}
use Rattle.pearl_instructions.specs.Engines.{machine_run, marked}
use Rattle.pearl_gen_expr.specs.Tables.{plain_leaf}
use Rattle.pearl_gen_stmt.specs.Generated.{last_of, IsCode, IsGenerated}
use Rattle.pearl_faithful.specs.Faithful.{IsFaithfulTo}
use Rattle.pearl_faithful.specs.Laws.{FaithfulPrograms}

abbrev body : PlainStmts
body = MoreStmts (OfRepeat None None (MoreStmts (OfCallOf 0 NoArguments) (MoreStmts OfExit NoStmts))) NoStmts

abbrev returning : PlainProcedure
returning = record { params = 0; result = None; routine = record { cells = []; body = MoreStmts (OfReturn None) NoStmts } }

abbrev calling : PlainTask
calling = record { name = 84 ∷ []; priority = 255; main = true; routine = record { cells = []; body = body } }

abbrev program : PlainProg
program = record { leaves = []; semaphores = []; devices = []; formats = []; procedures = returning ∷ []; tasks = calling ∷ [] }

abbrev code : ℕ → List Instr → Code
code depth instructions = record { cells = []; depth = depth; instructions = instructions; shapes = [] }

abbrev object : Object
object = record {
  devices = [];
  semaphores = [];
  leaves = [];
  formats = [];
  procedures = record { params = 0; result = None; code = code 2 (Return ∷ Return ∷ []) } ∷ [];
  tasks = record { name = record { items = 84 ∷ [] }; priority = 255; main = true; code = code 4 (Turn ∷ Call 0 ∷ Jump 4 ∷ Jump 0 ∷ End ∷ []) } ∷ [];
}

procedure_code : (number : ℕ) (procedure : PlainProcedure) → slice_get program.procedures number ≡ Some procedure →
    IsCode program object number procedure.result procedure.routine (last_of procedure.result)
procedure_code zero procedure is =
    subst (λ (procedure : PlainProcedure). IsCode program object 0 procedure.result procedure.routine (last_of procedure.result)) (same_Some returning procedure is)
    (record { end = 1; statements = (1, (refl, refl), refl); behind = refl; whole = refl; stated = (refl, refl) })
procedure_code (suc number) procedure is = cc

-- the CALL stands at 1, and EXIT at 2
task_code : (t : ℕ) (task : PlainTask) → slice_get program.tasks t ≡ Some task → IsCode program object (length object.procedures + t) None task.routine End
task_code zero task is =
    subst (λ (task : PlainTask). IsCode program object 1 None task.routine End) (same_Some calling task is)
    (record {
      end = 4;
      statements = (4, (0, 1, 1, 3, refl, refl, refl, refl, (2, (2, (returning, refl, 1, refl, refl, refl), refl), (3, (4, refl, (refl, refl)), refl)), (refl, refl)), refl);
      behind = refl;
      whole = refl;
      stated = (refl, refl);
    })
task_code (suc t) task is = cc

generated : IsGenerated program object
generated = record {
  tables = record { leaves = refl; semaphores = refl; devices = refl; formats = refl; procedures = refl; tasks = refl; task_cells = refl };
  procedures = procedure_code;
  tasks = task_code;
}

none_distinct : IsDistinct nat_eq []
unfolding IsDistinct
none_distinct = tt

procedure_sound : IsProcedure program returning
procedure_sound = record {
  few = omega arith;
  result = tt;
  routine = record { params = tt; others = tt; behind = tt; apart = none_distinct; body = (tt, tt) };
}

task_sound : IsTask program calling
task_sound = record {
  named = letter_is_id 84 (inl (omega arith, omega arith));
  urgent = (omega arith, omega arith);
  routine = record {
    params = tt;
    others = tt;
    behind = tt;
    apart = none_distinct;
    body = ((tt, tt, ((record { params = []; result = None }, refl, tt), (refl, tt))), tt);
  };
}

sound : IsSound program
sound = record {
  leaves = tt;
  semaphores = tt;
  devices = tt;
  rising = tt;
  formats = tt;
  procedures = (procedure_sound, tt);
  order = (omega arith, tt);
  tasks = (task_sound, tt);
  sizes = record {
    tasks = omega arith;
    procedures = omega arith;
    semaphores = omega arith;
    slots = omega arith;
    devices = omega arith;
    weights = (omega arith, tt);
    task_weights = (omega arith, tt);
  };
}

object_lawful : IsObject object
object_lawful = record {
  devices = tt;
  rising = tt;
  leaves = tt;
  formats = tt;
  procedures = (record { code = record { kinds = tt; plain = tt; few = omega arith; instructions = (tt, (tt, tt)); shapes = tt; rising = tt }; result = tt }, tt);
  tasks = (
    record {
      code = record { kinds = tt; plain = tt; few = omega arith; instructions = (tt, (tt, (tt, (tt, (tt, tt))))); shapes = tt; rising = tt };
      named = letter_is_id 84 (inl (omega arith, omega arith));
      urgent = (omega arith, omega arith);
    },
    tt,
  );
  semaphores = tt;
  few_formats = omega arith;
  few_slots = omega arith;
  few_procedures = omega arith;
  few_tasks = omega arith;
  few_semaphores = omega arith;
  few_devices = omega arith;
}

abbrev none : Option ℕ
none = None

object_valid : IsValid object
object_valid = record { sound = nowhere }
  where
    behind : (b : Bool) → (if b then none else none) ≡ none
    behind true = refl
    behind false = refl

    nowhere : (r i : ℕ) → unsound object r i ≡ None
    nowhere zero zero = refl
    nowhere zero (suc zero) = refl
    nowhere zero (suc (suc zero)) = refl
    nowhere zero (suc (suc (suc i))) = behind (suc (suc (suc i)) == 2)
    nowhere (suc zero) zero = refl
    nowhere (suc zero) (suc zero) = refl
    nowhere (suc zero) (suc (suc zero)) = refl
    nowhere (suc zero) (suc (suc (suc zero))) = refl
    nowhere (suc zero) (suc (suc (suc (suc zero)))) = refl
    nowhere (suc zero) (suc (suc (suc (suc (suc zero))))) = refl
    nowhere (suc zero) (suc (suc (suc (suc (suc (suc i)))))) = behind (suc (suc (suc (suc (suc (suc i))))) == 5)
    nowhere (suc (suc r)) i = refl

-- so the object does what the program means
runs_as_meant : FaithfulPrograms → IsFaithfulTo program object
runs_as_meant law = law program object sound generated object_lawful object_valid

abbrev all_told : List (ℕ × Report)
all_told = (0, Happened (Start 0 255)) ∷ (0, Happened (Ended 0)) ∷ []

-- the turn, the entry and the end are the marks of the program's run, and of the object's, within 8 steps
program_tells : (source_run program (Run 9 ∷ []) 3).core.told ≡ all_told
unfolding source_step effect offer
program_tells = refl

object_tells : (machine_run object (Run 9 ∷ []) 9).core.told ≡ all_told
unfolding machine_step effect
object_tells = refl

object_makes_its_marks : marked object (Run 9 ∷ []) 9 ≡ 3
unfolding machine_step effect
object_makes_its_marks = refl

-- one variable of the module, of this name
abbrev leaf : List ℕ → PlainLeaf
leaf name = record { name = name; values = record { kind = Clock; count = 1; constants = [] } }

abbrev is_q : List PlainLeaf → Bool
is_q [] = false
is_q (first ∷ leaves) = bytes_eq first.name (113 ∷ [])

-- an object that names it q isn't the program's, whatever it does
other_name : (o : Object) → map plain_leaf o.leaves ≡ leaf (113 ∷ []) ∷ [] → IsFaithfulTo (record program { leaves = leaf (97 ∷ []) ∷ [] }) o → ⊥
other_name o is faithful = true≢false (ap is_q (sym is ∙ faithful.tables.leaves))
