use Rattle.pearl_sound_sizes.proofs.Sized.{weigh_no_more}
use Rattle.pearl_sound_sizes.proofs.laws.weights_are_no_more.Goals as goal

pub returns : goal.returns
returns c = weigh_no_more
