use Rattle.pearl_sound.proofs.KnownKinds.{kinds_known}
use Rattle.pearl_sound.proofs.laws.kinds_are_known.Goals as goal

pub returns : goal.returns
returns c = kinds_known
