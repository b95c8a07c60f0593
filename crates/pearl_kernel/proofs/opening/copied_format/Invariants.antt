use Rattle.std.proofs.Common.{◌≡◌, take}
use Rattle.pearl_kernel.proofs.opening.copied_format.Given as goal

abbrev pub invariant-loop-item : goal.invariant-loop-item
invariant-loop-item l = l.items.items ≡ take l.item-index l.format
