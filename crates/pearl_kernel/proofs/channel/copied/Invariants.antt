use Rattle.std.proofs.Common.{◌≡◌, take}
use Rattle.pearl_kernel.proofs.channel.copied.Given as goal

abbrev pub invariant-loop-at : goal.invariant-loop-at
invariant-loop-at l = l.values.items ≡ take l.at l.input.items
