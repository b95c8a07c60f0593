use Rattle.pearl_records.proofs.Cores.{core-recorded}
use Rattle.pearl_records.proofs.laws.what_is_recorded_is_lawful.Goals as goal

pub returns : goal.returns
returns c = core-recorded
