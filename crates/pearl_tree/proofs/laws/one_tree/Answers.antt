use Rattle.pearl_tree.proofs.OneModule.{one_tree}
use Rattle.pearl_tree.proofs.laws.one_tree.Goals as goal

pub returns : goal.returns
returns c = one_tree
