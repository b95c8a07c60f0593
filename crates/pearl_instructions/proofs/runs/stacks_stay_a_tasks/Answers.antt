use Rattle.pearl_instructions.proofs.Stands.{goes_on}
use Rattle.pearl_instructions.proofs.runs.stacks_stay_a_tasks.Goals as goal

pub returns : goal.returns
returns c = goes_on c.rows_lead_to_stacks.ensures c.stacks_are_a_tasks.ensures c.frames_stay.ensures
