use Rattle.pearl_stack.proofs.StackLaws.{pops_the_pushed}
use Rattle.pearl_stack.proofs.laws.the_pushed_is_popped.Goals as goal

pub returns : goal.returns
returns c = pops_the_pushed
