use Rattle.pearl_run_laws.proofs.Steps.{ends_once}
use Rattle.pearl_run_laws.proofs.laws.runs_end_once.Goals as goal

pub returns : goal.returns
returns g c = λ engine. ends_once engine
