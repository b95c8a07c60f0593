use Rattle.pearl_snap.proofs.Wholes.{saved_told}
use Rattle.pearl_snap.proofs.laws.states_are_read_as_they_are_spelled.Goals as goal

pub returns-clause-lawful : goal.returns-clause-lawful
returns-clause-lawful c = saved_told.lawful

pub returns-clause-ordered : goal.returns-clause-ordered
returns-clause-ordered c = saved_told.ordered
