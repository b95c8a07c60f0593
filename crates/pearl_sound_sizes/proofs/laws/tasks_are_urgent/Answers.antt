use Rattle.pearl_sound_sizes.proofs.Sized.{urgent}
use Rattle.pearl_sound_sizes.proofs.laws.tasks_are_urgent.Goals as goal

pub returns : goal.returns
returns c = urgent
