use Rattle.pearl_instructions_laws.proofs.InBounds.{tasks_have_stacks}
use Rattle.pearl_instructions_laws.proofs.laws.active_tasks_alone_have_stacks.Goals as goal

pub returns : goal.returns
returns c = tasks_have_stacks
