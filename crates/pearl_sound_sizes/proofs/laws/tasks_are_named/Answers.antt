use Rattle.pearl_sound_sizes.proofs.Sized.{ids}
use Rattle.pearl_sound_sizes.proofs.laws.tasks_are_named.Goals as goal

pub returns : goal.returns
returns c = ids
