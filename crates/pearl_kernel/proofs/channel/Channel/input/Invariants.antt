use Rattle.std.proofs.Common.{◌≡◌}
use Rattle.pearl_kernel.proofs.Made.{Waits}
use Rattle.pearl_kernel.proofs.channel.Channel.input.Given as goal

abbrev pub invariant-loop-value : goal.invariant-loop-value
invariant-loop-value l = l.input ≡ Waits l.fn.kind l.pending l.value-index
