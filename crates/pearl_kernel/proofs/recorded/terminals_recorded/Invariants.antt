use Rattle.std.proofs.Common.{◌≡◌, take}
use Rattle.pearl_records.specs.Records.{terminals_in}
use Rattle.pearl_kernel.proofs.recorded.terminals_recorded.Given as goal

abbrev pub invariant-loop-channel : goal.invariant-loop-channel
invariant-loop-channel l = l.terminals.items ≡ terminals_in (take l.channel-index l.channels)
