use Rattle.pearl_sound_data.proofs.Tables.{module_leaves}
use Rattle.pearl_sound_data.proofs.laws.leaves_are_sound.Goals as goal

pub returns : goal.returns
returns c = module_leaves
