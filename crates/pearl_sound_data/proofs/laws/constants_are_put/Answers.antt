use Rattle.pearl_sound_data.proofs.Filling.{item_put}
use Rattle.pearl_sound_data.proofs.laws.constants_are_put.Goals as goal

pub returns : goal.returns
returns c = item_put
