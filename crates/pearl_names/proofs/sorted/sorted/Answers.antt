use Rattle.pearl_names.proofs.Sorting.{sorted_more}
use Rattle.pearl_names.proofs.sorted.sorted.Goals as goal

pub loop-group-preserved : goal.loop-group-preserved
loop-group-preserved c =
    sorted_more _ _ _ _ c.group-item.result c.loop-group-test.true c.group-item.is c.loop-group.invariant c.in_ok-add_group.ensures
