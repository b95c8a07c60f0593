use Rattle.pearl_faithful.proofs.Runs.{same_runs}
use Rattle.pearl_faithful.proofs.laws.runs_are_the_programs.Goals as goal

pub returns : goal.returns
returns c = same_runs
