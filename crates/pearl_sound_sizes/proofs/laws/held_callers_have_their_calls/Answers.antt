use Rattle.pearl_sound_sizes.proofs.Given.{held_callers}
use Rattle.pearl_sound_sizes.proofs.laws.held_callers_have_their_calls.Goals as goal

pub returns : goal.returns
returns c = held_callers
