use Rattle.pearl_gen_stmt.proofs.Stacks.{stacks_stand}
use Rattle.pearl_gen_stmt.proofs.laws.stacks_stand.Goals as goal

pub returns : goal.returns
returns c = stacks_stand
