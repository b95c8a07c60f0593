use Rattle.pearl_top.proofs.OneOutcome.{one_status}
use Rattle.pearl_top.proofs.laws.one_status.Goals as goal

pub returns : goal.returns
returns c = one_status c.valid_objects_run.ensures c.snapshots_are_read_as_they_are_spelled.ensures.lawful
