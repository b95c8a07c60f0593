use Rattle.pearl_sound_sizes.proofs.Given.{none_calls_itself}
use Rattle.pearl_sound_sizes.proofs.laws.none_calls_itself.Goals as goal

pub returns : goal.returns
returns c = none_calls_itself
