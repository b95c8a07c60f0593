use Rattle.pearl_run_laws.proofs.GoingOn.{runs_go_on}
use Rattle.pearl_run_laws.proofs.laws.runs_go_on.Goals as goal

pub returns : goal.returns
returns g c = runs_go_on
