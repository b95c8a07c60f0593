use Rattle.pearl_stack.proofs.StackLaws.{reads_from_the_top}
use Rattle.pearl_stack.proofs.laws.operands_are_read_from_the_top.Goals as goal

pub returns : goal.returns
returns c = reads_from_the_top
