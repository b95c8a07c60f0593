use Rattle.pearl_sound.proofs.OwnCells.{cells_apart}
use Rattle.pearl_sound.proofs.laws.names_share_no_cells.Goals as goal

pub returns : goal.returns
returns c = cells_apart
