-- Silent rows, one after the other, up to the row that offers an action.
use Rattle.std.specs.Prelude.{◌≡◌, ℕ, ◌<◌, List}
use Rattle.pearl_rules.specs.declared.action.Action.{Action}
use Rattle.pearl_rules.specs.declared.action.Answer.{Answer}
use Rattle.pearl_stack.specs.Frames.{Frame}
use Rattle.pearl_instructions.specs.declared.object.Parts.{Parts as Object}
use Rattle.pearl_instructions.specs.Objects.{routines}
use Rattle.pearl_instructions.specs.Rows.{row}
use Rattle.pearl_instructions.specs.Stacks.{all_rows}
use Rattle.pearl_instructions.specs.Steps.{Offers}
use Rattle.pearl_silent.specs.Settling.{Silently}

-- silent rows lead to a stack whose row offers this action, and with that row they are no more than the object has instructions
pub record Settles (o : Object) (frames last : List Frame) (action : Action) : Type 0 where
  pub rows : ℕ
  pub silent : Silently o rows frames last
  pub go : Answer → List Frame
  pub offers : row o last ≡ Offers action go
  pub few : rows < all_rows (routines o)
