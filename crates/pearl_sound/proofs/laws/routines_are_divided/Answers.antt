use Rattle.pearl_sound.proofs.Dividing.{routine_divides}
use Rattle.pearl_sound.proofs.laws.routines_are_divided.Goals as goal

pub returns : goal.returns
returns c = routine_divides
