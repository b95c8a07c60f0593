use Rattle.pearl_snap.proofs.Embedding.{snapshot_told}
use Rattle.pearl_snap.proofs.laws.snapshots_are_read_as_they_are_spelled.Goals as goal

pub returns-clause-lawful : goal.returns-clause-lawful
returns-clause-lawful c = snapshot_told.lawful

pub returns-clause-ordered : goal.returns-clause-ordered
returns-clause-ordered c = snapshot_told.ordered
