use Rattle.pearl_sound.proofs.RoutineNames.{scopes_apart}
use Rattle.pearl_sound.proofs.laws.scopes_share_no_cells.Goals as goal

pub returns : goal.returns
returns c = scopes_apart
