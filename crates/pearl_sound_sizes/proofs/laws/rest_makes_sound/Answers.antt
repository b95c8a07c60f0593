use Rattle.pearl_sound_sizes.proofs.Sized.{rest_sound}
use Rattle.pearl_sound_sizes.proofs.laws.rest_makes_sound.Goals as goal

pub returns : goal.returns
returns c = rest_sound
