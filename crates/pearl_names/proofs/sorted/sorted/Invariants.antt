use Rattle.std.proofs.Common.{◌≡◌, take}
use Rattle.pearl_names.specs.Groups.{entries_in}
use Rattle.pearl_names.specs.Sorts.{sorted_names}
use Rattle.pearl_names.proofs.sorted.sorted.Given as goal

abbrev pub invariant-loop-group : goal.invariant-loop-group
invariant-loop-group l = l.names.items ≡ sorted_names (entries_in (take l.group-index l.groups))
