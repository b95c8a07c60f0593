use Rattle.pearl_format.proofs.Steps.{has_put_next}
use Rattle.pearl_format.proofs.put.put_items.Goals as goal

pub loop-item-preserved : goal.loop-item-preserved
loop-item-preserved c =
    let h = c.in_ok-taken.ensures in
    has_put_next _ _ _ c.loop-item.item-index c.in_ok-taken.taken c.loop-item.rest.now c.loop-item.into.items _ _ c.loop-item.invariant c.loop-item-test.true h.taken.0 h.ok
