use Rattle.pearl_top.proofs.RightRenewals.{bodies_right}
use Rattle.pearl_top.proofs.laws.bodies_renew_right.Goals as goal

pub returns : goal.returns
returns c = bodies_right
