-- What a sound program becomes is valid, offers what its tasks do, and arrives where their parts end.
use Rattle.std.specs.Prelude.{◌≡◌, ℕ, ◌+◌, ◌<◌, ◌^◌, Bool, List, length, Option, Some, slice_get}
use Rattle.pearl_value.specs.declared.kind.Kind.{Kind}
use Rattle.pearl_rules.specs.declared.action.Answer.{Answer}
use Rattle.pearl_program.specs.PlainPrograms.{PlainRoutine, PlainTask, PlainProg}
use Rattle.pearl_program.specs.Sound.{IsSound}
use Rattle.pearl_instructions.specs.declared.object.Parts.{Parts as Object}
use Rattle.pearl_instructions.specs.Lawful.{IsObject}
use Rattle.pearl_instructions.specs.Rows.{begun}
use Rattle.pearl_instructions.specs.Valid.{IsValid}
use Rattle.pearl_meaning.specs.Programs.{offer}
use Rattle.pearl_meaning.specs.Hearing.{Heard}
use Rattle.pearl_gen_expr.specs.Contexts.{Context}
use Rattle.pearl_gen_stmt.specs.Generated.{within_program, IsGenerated}
use Rattle.pearl_gen_stmt.specs.Offering.{OffersAfter}
use Rattle.pearl_gen_stmt.specs.Arriving.{IsRoutineOf, result_of, around_part, PartsArrive}

-- a format has a number of 32 bits in an object, and none in a program
abbrev pub GeneratedIsValid : Type 0
GeneratedIsValid = (p : PlainProg) (o : Object) → IsSound p → IsGenerated p o → length o.formats < 2 ^ 32 →
    IsObject o × IsValid o

-- after all answers that a task can have, its code offers what it does next
abbrev pub GeneratedOffers : Type 0
GeneratedOffers = (p : PlainProg) (o : Object) → IsSound p → IsGenerated p o → length o.formats < 2 ^ 32 →
    (t : ℕ) (task : PlainTask) → slice_get p.tasks t ≡ Some task → (answers : List Answer) → Heard p t answers →
    OffersAfter o (begun o (length o.procedures + t)) answers (offer p t answers)

-- wherever sound parts of a routine stand, their code arrives at what they mean
abbrev pub GeneratedArrives : Type 0
GeneratedArrives = (p : PlainProg) (o : Object) → IsSound p → IsGenerated p o → length o.formats < 2 ^ 32 →
    (c : Context) (returns : Option (Option Kind)) (routine : PlainRoutine) →
    IsRoutineOf p o c.routine returns routine → (controls : List ℕ) (in_loop : Bool) →
    PartsArrive p o c (within_program p (result_of returns) routine) (around_part p routine returns controls in_loop)
