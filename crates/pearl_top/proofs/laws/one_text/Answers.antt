use Rattle.pearl_top.proofs.OneOutcome.{one_text}
use Rattle.pearl_top.proofs.laws.one_text.Goals as goal

pub returns : goal.returns
returns c = one_text c.valid_objects_run.ensures c.snapshots_are_read_as_they_are_spelled.ensures.lawful
