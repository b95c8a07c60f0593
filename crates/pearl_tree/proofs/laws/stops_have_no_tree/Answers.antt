use Rattle.pearl_tree.proofs.FirstStop.{stops_have_no_tree}
use Rattle.pearl_tree.proofs.laws.stops_have_no_tree.Goals as goal

pub returns : goal.returns
returns c = stops_have_no_tree
