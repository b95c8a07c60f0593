use Rattle.pearl_format.proofs.Steps.{HasPut}
use Rattle.pearl_format.proofs.put.put_items.Given as goal

abbrev pub invariant-loop-item : goal.invariant-loop-item
invariant-loop-item l = HasPut l.items l.values l.fn.into.items l.item-index l.rest l.into.items
