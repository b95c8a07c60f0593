use Rattle.pearl_sound_data.proofs.Filling.{slots_go_on}
use Rattle.pearl_sound_data.proofs.laws.init_goes_on.Goals as goal

pub returns : goal.returns
returns c = slots_go_on
