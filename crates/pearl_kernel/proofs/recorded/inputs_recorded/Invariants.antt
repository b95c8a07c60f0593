use Rattle.std.proofs.Common.{◌≡◌, take}
use Rattle.pearl_records.specs.Records.{inputs_in}
use Rattle.pearl_kernel.proofs.recorded.inputs_recorded.Given as goal

abbrev pub invariant-loop-channel : goal.invariant-loop-channel
invariant-loop-channel l = l.inputs.items ≡ inputs_in (take l.channel-index l.channels)
