use Rattle.pearl_stack.proofs.StackLaws.{writes_one_cell}
use Rattle.pearl_stack.proofs.laws.one_cell_is_written.Goals as goal

pub returns : goal.returns
returns c = writes_one_cell
