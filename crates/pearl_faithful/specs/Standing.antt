-- Where the code of a task stands after the answers that it had.
use Rattle.std.specs.Prelude.{ℕ, List, ◌++◌}
use Rattle.pearl_rules.specs.declared.action.Answer.{Answer}
use Rattle.pearl_stack.specs.Frames.{Frame}
use Rattle.pearl_program.specs.PlainPrograms.{PlainProg}
use Rattle.pearl_instructions.specs.declared.object.Parts.{Parts as Object}
use Rattle.pearl_meaning.specs.Programs.{offer}
use Rattle.pearl_meaning.specs.Hearing.{Heard}
use Rattle.pearl_instructions.specs.Owners.{StandsIn}
use Rattle.pearl_gen_stmt.specs.Offering.{OffersAfter}

-- The stack is the task's own, the task can have had these answers, and from there on its code offers what the task
-- does next, after whatever further answers it can have.
pub record Stands (p : PlainProg) (o : Object) (t : ℕ) (heard : List Answer) (frames : List Frame) : Type 0 where
  pub own : StandsIn o t frames
  pub can : Heard p t heard
  pub offers : (more : List Answer) → Heard p t (heard ++ more) → OffersAfter o frames more (offer p t (heard ++ more))
