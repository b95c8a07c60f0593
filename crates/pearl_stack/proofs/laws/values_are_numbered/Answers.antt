use Rattle.pearl_stack.proofs.StackLaws.{numbers_values}
use Rattle.pearl_stack.proofs.laws.values_are_numbered.Goals as goal

pub returns : goal.returns
returns c = numbers_values
