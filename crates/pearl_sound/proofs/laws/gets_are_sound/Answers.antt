use Rattle.pearl_sound.proofs.TextTransfers.{get_sound}
use Rattle.pearl_sound.proofs.laws.gets_are_sound.Goals as goal

pub returns : goal.returns
returns c = get_sound
