use Rattle.pearl_sound.proofs.Going.{routine_cells_there}
use Rattle.pearl_sound.proofs.laws.routines_have_cells.Goals as goal

pub returns : goal.returns
returns c = routine_cells_there
