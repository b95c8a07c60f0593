use Rattle.pearl_sound_data.proofs.Filling.{names_fill}
use Rattle.pearl_sound_data.proofs.laws.init_fills_names.Goals as goal

pub returns : goal.returns
returns c = names_fill
