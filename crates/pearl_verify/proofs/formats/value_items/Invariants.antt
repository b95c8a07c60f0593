use Rattle.std.proofs.Common.{◌≡◌, ◌++◌, drop}
use Rattle.pearl_verify.specs.Formats.{value_items}
use Rattle.pearl_verify.proofs.formats.value_items.Given as goal

abbrev pub invariant-loop-item : goal.invariant-loop-item
invariant-loop-item l = l.values.items ++ value_items (drop l.item-index l.items) ≡ value_items l.items
