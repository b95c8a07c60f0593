use Rattle.pearl_stack.proofs.StackLaws.{counts_values}
use Rattle.pearl_stack.proofs.laws.values_are_counted.Goals as goal

pub returns : goal.returns
returns c = counts_values
