use Rattle.std.proofs.Common.{◌≡◌, take}
use Rattle.pearl_kernel.proofs.recorded.counts_recorded.Given as goal

abbrev pub invariant-loop-count : goal.invariant-loop-count
invariant-loop-count l = l.recorded.items ≡ take l.count-index l.counts
