use Rattle.pearl_sound.proofs.RoutineNames.{inner_names}
use Rattle.pearl_sound.proofs.laws.inner_names_have_their_cells.Goals as goal

pub returns : goal.returns
returns c = inner_names
