use Rattle.pearl_sound_sizes.proofs.Given.{read_off}
use Rattle.pearl_sound_sizes.proofs.laws.numbers_are_read_off.Goals as goal

pub returns : goal.returns
returns c = read_off
