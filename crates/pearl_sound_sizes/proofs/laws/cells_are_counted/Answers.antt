use Rattle.pearl_sound_sizes.proofs.Sized.{cells_counted}
use Rattle.pearl_sound_sizes.proofs.laws.cells_are_counted.Goals as goal

pub returns : goal.returns
returns c = cells_counted
