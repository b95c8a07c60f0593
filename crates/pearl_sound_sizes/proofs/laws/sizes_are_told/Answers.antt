use Rattle.pearl_sound_sizes.proofs.Sized.{told}
use Rattle.pearl_sound_sizes.proofs.laws.sizes_are_told.Goals as goal

pub returns : goal.returns
returns c = told
