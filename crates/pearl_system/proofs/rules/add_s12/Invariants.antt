use Rattle.std.proofs.Common.{◌≡◌, ◌++◌, take}
use Rattle.pearl_system.specs.FirstDevices.{HoldsTwins}
use Rattle.pearl_system.specs.Rules.{s12}
use Rattle.pearl_system.proofs.rules.add_s12.Given as goal

abbrev pub invariant-loop-device : goal.invariant-loop-device
invariant-loop-device l =
    HoldsTwins (take l.device-index l.devices) l.twins.keys × (l.faults.items ≡ l.initial.faults.items ++ s12 (take l.device-index l.devices))
