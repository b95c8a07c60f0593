use Rattle.pearl_instructions.proofs.Silence.{offers_soon}
use Rattle.pearl_instructions.proofs.laws.actions_are_offered_soon.Goals as goal

pub returns : goal.returns
returns c = offers_soon
