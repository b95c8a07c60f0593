use Rattle.pearl_tree.proofs.OneFaultList.{one_list}
use Rattle.pearl_tree.proofs.laws.one_fault_list.Goals as goal

pub returns : goal.returns
returns c = one_list
