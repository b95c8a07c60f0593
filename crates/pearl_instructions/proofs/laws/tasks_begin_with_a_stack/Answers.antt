use Rattle.pearl_instructions.proofs.Begun.{begun_sound}
use Rattle.pearl_instructions.proofs.laws.tasks_begin_with_a_stack.Goals as goal

pub returns : goal.returns
returns c = begun_sound
