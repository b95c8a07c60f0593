use Rattle.std.proofs.Common.{◌≡◌, take}
use Rattle.pearl_kernel.proofs.opening.copied_values.Given as goal

abbrev pub invariant-loop-value : goal.invariant-loop-value
invariant-loop-value l = l.slots.items ≡ take l.value-index l.first
