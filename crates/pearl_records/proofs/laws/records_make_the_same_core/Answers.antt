use Rattle.pearl_records.proofs.Cores.{core-again}
use Rattle.pearl_records.proofs.laws.records_make_the_same_core.Goals as goal

pub returns : goal.returns
returns c = core-again
