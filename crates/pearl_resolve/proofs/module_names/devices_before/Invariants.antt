use Rattle.std.proofs.Common.{◌≡◌, ◌+◌, length}
use Rattle.pearl_resolve.specs.Devices.{before_device}
use Rattle.pearl_resolve.proofs.module_names.devices_before.Given as goal

abbrev pub invariant-loop-devices : goal.invariant-loop-devices
invariant-loop-devices l = l.number + before_device l.devices l.text ≡ before_device l.initial.devices l.text

abbrev pub decreases-loop-devices : goal.decreases-loop-devices
decreases-loop-devices l = length l.devices
