use Rattle.std.proofs.Common.{take}
use Rattle.std.specs.List.{filter_map}
use Rattle.pearl_system.specs.Devices.{device_key, meant, IsFirstIn}
use Rattle.pearl_system.specs.Rising.{Lists}
use Rattle.pearl_system.proofs.device.found_devices.Given as goal

abbrev pub invariant-loop-at : goal.invariant-loop-at
invariant-loop-at l = Lists device_key (IsFirstIn (filter_map (meant l.devices) (take l.at l.names))) l.found.items
