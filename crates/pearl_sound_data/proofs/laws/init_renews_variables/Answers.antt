use Rattle.pearl_sound_data.proofs.Renewed.{variable_renewed}
use Rattle.pearl_sound_data.proofs.laws.init_renews_variables.Goals as goal

pub returns : goal.returns
returns c = variable_renewed
