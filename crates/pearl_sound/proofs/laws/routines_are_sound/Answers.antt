use Rattle.pearl_sound.proofs.SoundRoutines.{routines_sound}
use Rattle.pearl_sound.proofs.laws.routines_are_sound.Goals as goal

pub returns : goal.returns
returns c = routines_sound
