use Rattle.std.proofs.Common.{◌≡◌, ◌≤◌, ◌+◌, drop}
use Rattle.pearl_format.specs.Items.{data_count}
use Rattle.pearl_verify.proofs.formats.values_of.Given as goal

abbrev pub invariant-loop-item : goal.invariant-loop-item
invariant-loop-item l = (data_count l.items ≡ l.count + data_count (drop l.item-index l.items)) × (l.count ≤ l.item-index)
