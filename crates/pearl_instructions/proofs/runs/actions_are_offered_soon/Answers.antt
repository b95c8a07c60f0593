use Rattle.pearl_instructions.proofs.Soon.{soon}
use Rattle.pearl_instructions.proofs.runs.actions_are_offered_soon.Goals as goal

pub returns : goal.returns
returns c = soon c.actions_are_offered_soon.ensures
