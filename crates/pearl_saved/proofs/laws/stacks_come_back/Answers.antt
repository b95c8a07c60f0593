use Rattle.pearl_saved.proofs.Again.{stack_again}
use Rattle.pearl_saved.proofs.laws.stacks_come_back.Goals as goal

pub returns : goal.returns
returns c = stack_again
