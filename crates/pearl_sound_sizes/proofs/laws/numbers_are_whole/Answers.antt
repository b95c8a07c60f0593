use Rattle.pearl_sound_sizes.proofs.Whole.{whole}
use Rattle.pearl_sound_sizes.proofs.laws.numbers_are_whole.Goals as goal

pub returns : goal.returns
returns c = whole
