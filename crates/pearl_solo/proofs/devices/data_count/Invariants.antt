use Rattle.std.proofs.Common.{◌≡◌, ◌+◌, drop}
use Rattle.pearl_format.specs.Items.{data_count}
use Rattle.pearl_solo.proofs.devices.data_count.Given as goal

abbrev pub invariant-loop-item : goal.invariant-loop-item
invariant-loop-item l = l.count + data_count (drop l.item-index l.items) ≡ data_count l.items
