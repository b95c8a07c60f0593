use Rattle.pearl_instructions.proofs.Owned.{names_own}
use Rattle.pearl_instructions.proofs.laws.own_task_is_named.Goals as goal

pub returns : goal.returns
returns c = names_own
