use Rattle.pearl_instructions.proofs.Stands.{goes_on_after}
use Rattle.pearl_instructions.proofs.runs.answers_lead_to_stacks.Goals as goal

pub returns : goal.returns
returns c = goes_on_after c.rows_lead_to_stacks.ensures c.stacks_are_a_tasks.ensures c.frames_stay.ensures
