use Rattle.pearl_instructions.proofs.Owned.{has_task}
use Rattle.pearl_instructions.proofs.laws.stacks_are_a_tasks.Goals as goal

pub returns : goal.returns
returns c = has_task
