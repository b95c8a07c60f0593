use Rattle.std.proofs.Common.{◌≡◌, ◌++◌, length}
use Rattle.pearl_check.specs.Formats.{item_faults}
use Rattle.pearl_check.proofs.formats.item_faults.Given as goal

abbrev pub invariant-loop-items : goal.invariant-loop-items
invariant-loop-items l =
    l.faults.items ++ item_faults l.items l.kinds ≡ l.fn.faults.items ++ item_faults l.initial.items l.initial.kinds

abbrev pub decreases-loop-items : goal.decreases-loop-items
decreases-loop-items l = length l.items
