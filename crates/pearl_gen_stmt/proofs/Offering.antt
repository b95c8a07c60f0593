-- In a valid object the code of each task offers what the task does next.
use Rattle.std.specs.Prelude.{◌≡◌, ℕ, ◌+◌, List, [], ◌∷◌, ◌++◌, length, Option, Some, None, slice_get}
use Rattle.std.proofs.Common.{refl, subst, arith}
use Rattle.pearl_rules.specs.declared.action.Action.{Action}
use Rattle.pearl_rules.specs.declared.action.Answer.{Answer}
use Rattle.pearl_program.specs.PlainPrograms.{PlainProg}
use Rattle.pearl_instructions.specs.declared.instr.Instr.{Instr}
use Rattle.pearl_instructions.specs.declared.instr.Instr.TheVariants.{End}
use Rattle.pearl_instructions.specs.declared.object.Code.{Code}
use Rattle.pearl_instructions.specs.declared.object.Parts.{Parts as Object}
use Rattle.pearl_instructions.specs.Laws.{Begins, Leads as RowsLead, KeepsTask}
use Rattle.pearl_instructions.specs.Objects.{routine_at}
use Rattle.pearl_instructions.specs.Rows.{begun}
use Rattle.pearl_meaning.specs.Programs.{offer}
use Rattle.pearl_meaning.specs.Hearing.{HeardAfter}
use Rattle.pearl_gen_expr.specs.Comes.{offers, or_lost, Comes}
use Rattle.pearl_gen_expr.specs.ExprCode.{instructions_or_none}
use Rattle.pearl_gen_stmt.specs.Generated.{IsGenerated}
use Rattle.pearl_gen_stmt.specs.Offering.{TasksOffer}
use Rattle.pearl_gen_stmt.proofs.Heard.{suits_same}
use Rattle.pearl_gen_stmt.proofs.Tasks.{tasks_come}
use Rattle.pearl_gen_stmt.proofs.Arriving.{IsHere, AreHeard, arrives}

module _ (p : PlainProg) (o : Object) (generated : IsGenerated p o) (t : ℕ) where
  -- what a task does next after some answers
  abbrev Asks : List Answer → Action → Type 0
  Asks answers a = offer p t answers ≡ a

  are_heard : (before answers : List Answer) → HeardAfter p t before answers → AreHeard o t Asks before answers
  are_heard before [] heard = tt
  are_heard before (answer ∷ answers) heard = (
    offer p t before,
    refl,
    suits_same p o generated.tables t (offer p t before) answer heard.0,
    are_heard (before ++ answer ∷ []) answers heard.1,
  )

code_there : (code : Option Code) (place : ℕ) (instr : Instr) →
    slice_get (instructions_or_none code) place ≡ Some instr → (found : Code) × (code ≡ Some found)
code_there None place instr is = cc
code_there (Some code) place instr is = (code, refl)

pub tasks_offer : Begins → RowsLead → KeepsTask → TasksOffer
tasks_offer begins leads keeps p o sound generated valid object t task there answers heard =
    let r = length o.procedures + t in let its = generated.tasks t task there in
    let code = code_there (routine_at o r) its.end End its.behind in
    let here : IsHere leads keeps o valid object t (begun o r) =
    record { stack = begins o r code.0 valid object (omega arith) code.1; own = refl } in
    let comes = tasks_come p o sound generated t task there in let aim = offers (offer p t answers) in
    arrives leads keeps o valid object t (Asks p o generated t) aim aim (λ frames rest here is. is) (λ a is. is)
    answers (begun o r) here (λ more a is. subst (λ a. Comes o (begun o r) more (or_lost (offers a))) is (comes more))
    (are_heard p o generated t [] answers heard) (comes answers)
