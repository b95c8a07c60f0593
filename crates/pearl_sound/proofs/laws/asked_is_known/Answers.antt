use Rattle.pearl_sound.proofs.AskedKnown.{asked_known}
use Rattle.pearl_sound.proofs.laws.asked_is_known.Goals as goal

pub returns : goal.returns
returns c = asked_known
