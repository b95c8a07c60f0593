use Rattle.pearl_run_laws.proofs.Moments.{moments_come}
use Rattle.pearl_run_laws.proofs.laws.moments_come.Goals as goal

pub returns : goal.returns
returns g c = moments_come c.time_passes.ensures.acts c.time_passes.ensures.passes c.time_passes.ensures.arrives
