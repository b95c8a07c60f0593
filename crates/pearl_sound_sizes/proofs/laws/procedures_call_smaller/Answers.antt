use Rattle.pearl_sound_sizes.proofs.Sized.{smaller_called}
use Rattle.pearl_sound_sizes.proofs.laws.procedures_call_smaller.Goals as goal

pub returns : goal.returns
returns c = smaller_called
