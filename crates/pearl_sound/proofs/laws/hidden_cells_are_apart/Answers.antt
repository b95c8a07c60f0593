use Rattle.pearl_sound.proofs.HiddenRising.{hidden_apart}
use Rattle.pearl_sound.proofs.laws.hidden_cells_are_apart.Goals as goal

pub returns : goal.returns
returns c = hidden_apart
