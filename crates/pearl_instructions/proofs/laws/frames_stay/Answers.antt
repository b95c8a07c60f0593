use Rattle.pearl_instructions.proofs.Owned.{keeps_task}
use Rattle.pearl_instructions.proofs.laws.frames_stay.Goals as goal

pub returns : goal.returns
returns c = keeps_task
