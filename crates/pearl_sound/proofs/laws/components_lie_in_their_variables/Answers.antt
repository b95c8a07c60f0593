use Rattle.pearl_sound.proofs.Components.{components_lie}
use Rattle.pearl_sound.proofs.laws.components_lie_in_their_variables.Goals as goal

pub returns : goal.returns
returns c = components_lie
