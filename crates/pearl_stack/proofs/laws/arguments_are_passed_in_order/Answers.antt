use Rattle.pearl_stack.proofs.StackLaws.{passes_arguments}
use Rattle.pearl_stack.proofs.laws.arguments_are_passed_in_order.Goals as goal

pub returns : goal.returns
returns c = passes_arguments
