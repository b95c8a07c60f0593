use Rattle.pearl_top.proofs.CompiledRuns.{compiled_alike}
use Rattle.pearl_top.proofs.laws.compiled_runs_alike.Goals as goal

pub returns : goal.returns
returns c = compiled_alike c.valid_objects_run.ensures
