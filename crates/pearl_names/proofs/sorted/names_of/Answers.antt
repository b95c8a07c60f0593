use Rattle.pearl_names.proofs.Sorting.{named_more}
use Rattle.pearl_names.proofs.sorted.names_of.Goals as goal

pub loop-scope-preserved : goal.loop-scope-preserved
loop-scope-preserved c =
    named_more _ _ _ _ c.scope-item.result _ c.loop-scope-test.true c.scope-item.is c.loop-scope.invariant c.in_ok-table.ensures c.in_ok-push.ensures.items
