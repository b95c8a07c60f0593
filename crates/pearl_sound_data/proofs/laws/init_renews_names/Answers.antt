use Rattle.pearl_sound_data.proofs.Renewed.{names_renewed}
use Rattle.pearl_sound_data.proofs.laws.init_renews_names.Goals as goal

pub returns : goal.returns
returns c = names_renewed
