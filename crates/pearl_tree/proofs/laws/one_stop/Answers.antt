use Rattle.pearl_tree.proofs.FirstStop.{one_stop}
use Rattle.pearl_tree.proofs.laws.one_stop.Goals as goal

pub returns : goal.returns
returns c = one_stop
