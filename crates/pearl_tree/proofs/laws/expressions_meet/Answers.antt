use Rattle.pearl_tree.proofs.Chains.{exprs_meet}
use Rattle.pearl_tree.proofs.laws.expressions_meet.Goals as goal

pub returns : goal.returns
returns c = exprs_meet
