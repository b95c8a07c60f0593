use Rattle.std.proofs.Common.{rules}
use Rattle.pearl_snap.proofs.plans.series_at.Goals as goal

pub returns-in_err-series-in-1 : goal.returns-in_err-series-in-1
returns-in_err-series-in-1 c = rw c.in-1.is (search rules)
