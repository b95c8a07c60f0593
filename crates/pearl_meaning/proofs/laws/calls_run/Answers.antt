use Rattle.pearl_meaning.proofs.CallsAlike.{calls_run}
use Rattle.pearl_meaning.proofs.laws.calls_run.Goals as goal

pub returns : goal.returns
returns c = calls_run
