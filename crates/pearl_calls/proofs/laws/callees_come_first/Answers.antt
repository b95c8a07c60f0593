use Rattle.pearl_calls.proofs.Following.{callees_first}
use Rattle.pearl_calls.proofs.laws.callees_come_first.Goals as goal

pub returns : goal.returns
returns c = callees_first
