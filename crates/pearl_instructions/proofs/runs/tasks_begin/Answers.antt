use Rattle.pearl_instructions.proofs.Stands.{begins}
use Rattle.pearl_instructions.proofs.runs.tasks_begin.Goals as goal

pub returns : goal.returns
returns c = begins c.tasks_begin_with_a_stack.ensures
