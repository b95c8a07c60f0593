use Rattle.pearl_run_laws.proofs.Parting.{entries_part}
use Rattle.pearl_run_laws.proofs.laws.entries_part.Goals as goal

pub returns : goal.returns
returns g c = entries_part
