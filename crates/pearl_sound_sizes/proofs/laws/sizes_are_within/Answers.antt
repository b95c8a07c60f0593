use Rattle.pearl_sound_sizes.proofs.Sized.{sizes_within}
use Rattle.pearl_sound_sizes.proofs.laws.sizes_are_within.Goals as goal

pub returns : goal.returns
returns c = sizes_within
