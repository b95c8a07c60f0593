-- Which action code offers over some answers, each of its rows being there.
use Rattle.std.specs.Prelude.{◌≡◌, ℕ, ◌+◌, List, length, Some, slice_get}
use Rattle.pearl_rules.specs.declared.action.Action.{Action}
use Rattle.pearl_rules.specs.declared.action.Answer.{Answer}
use Rattle.pearl_stack.specs.Frames.{Frame}
use Rattle.pearl_program.specs.PlainPrograms.{PlainTask, PlainProg}
use Rattle.pearl_program.specs.Sound.{IsSound}
use Rattle.pearl_instructions.specs.declared.object.Parts.{Parts as Object}
use Rattle.pearl_instructions.specs.Lawful.{IsObject}
use Rattle.pearl_instructions.specs.Rows.{begun}
use Rattle.pearl_instructions.specs.Valid.{IsValid}
use Rattle.pearl_meaning.specs.Programs.{offer}
use Rattle.pearl_meaning.specs.Hearing.{Heard}
use Rattle.pearl_gen_expr.specs.Comes.{offers, Comes}
use Rattle.pearl_gen_stmt.specs.Generated.{IsGenerated}

-- from this stack the code offers this action once it has had these answers
abbrev pub OffersAfter : Object → List Frame → List Answer → Action → Type 0
OffersAfter o frames rest action = Comes o frames rest (offers action)

-- After all answers that a task can have, the code of a valid object offers what the task does next.
abbrev pub TasksOffer : Type 0
TasksOffer = (p : PlainProg) (o : Object) → IsSound p → IsGenerated p o → IsValid o → IsObject o →
    (t : ℕ) (task : PlainTask) → slice_get p.tasks t ≡ Some task → (answers : List Answer) → Heard p t answers →
    OffersAfter o (begun o (length o.procedures + t)) answers (offer p t answers)
