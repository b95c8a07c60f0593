use Rattle.pearl_top.proofs.Completeness.{ends_well}
use Rattle.pearl_top.proofs.laws.files_in_order_end_well.Goals as goal

pub returns : goal.returns
returns c = ends_well c.valid_objects_run.ensures c.restored_runs_end.ensures c.snapshots_are_read_as_they_are_spelled.ensures.lawful
