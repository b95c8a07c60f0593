use Rattle.pearl_sound.proofs.RoutineNames.{stretch_cells}
use Rattle.pearl_sound.proofs.laws.stretches_have_their_cells.Goals as goal

pub returns : goal.returns
returns c = stretch_cells
