use Rattle.std.proofs.Common.{◌≡◌, ◌++◌, map, drop}
use Rattle.pearl_resolve_tables.specs.Devices.{device_of}
use Rattle.pearl_resolve_tables.proofs.devices.program_devices.Given as goal

abbrev pub invariant-loop-one : goal.invariant-loop-one
invariant-loop-one l = l.made.items ++ map (device_of l.lengths) (drop l.one-index l.specified) ≡ map (device_of l.lengths) l.specified
