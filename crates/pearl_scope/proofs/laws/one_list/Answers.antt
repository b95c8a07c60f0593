use Rattle.pearl_tree.proofs.Offered.{one_list}
use Rattle.pearl_scope.specs.Rules.{broken}
use Rattle.pearl_scope.proofs.laws.one_list.Goals as goal

pub returns : goal.returns
returns c = λ tree. one_list (broken tree)
