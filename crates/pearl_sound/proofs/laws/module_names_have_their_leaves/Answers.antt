use Rattle.pearl_sound.proofs.ModuleCounts.{variable_leaves_there}
use Rattle.pearl_sound.proofs.laws.module_names_have_their_leaves.Goals as goal

pub returns : goal.returns
returns c = variable_leaves_there
