use Rattle.std.proofs.Common.{◌≡◌, take, map}
use Rattle.pearl_rules.specs.Core.{first_channel}
use Rattle.pearl_kernel.proofs.opening.first_channels.Given as goal

abbrev pub invariant-loop-device : goal.invariant-loop-device
invariant-loop-device l = l.channels.items ≡ map first_channel (take l.device-index l.devices)
