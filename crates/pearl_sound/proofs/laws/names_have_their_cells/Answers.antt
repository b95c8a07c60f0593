use Rattle.pearl_sound.proofs.OwnCells.{own_cells_there}
use Rattle.pearl_sound.proofs.laws.names_have_their_cells.Goals as goal

pub returns : goal.returns
returns c = own_cells_there
