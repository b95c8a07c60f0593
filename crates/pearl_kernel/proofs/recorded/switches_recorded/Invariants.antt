use Rattle.std.proofs.Common.{◌≡◌, take}
use Rattle.pearl_records.specs.Records.{switches_in}
use Rattle.pearl_kernel.proofs.recorded.switches_recorded.Given as goal

abbrev pub invariant-loop-channel : goal.invariant-loop-channel
invariant-loop-channel l = l.switches.items ≡ switches_in (take l.channel-index l.channels)
