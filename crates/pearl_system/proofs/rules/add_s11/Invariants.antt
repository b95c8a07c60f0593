use Rattle.std.proofs.Common.{◌≡◌, ◌++◌, take}
use Rattle.pearl_system.specs.Rules.{s11}
use Rattle.pearl_system.proofs.rules.add_s11.Given as goal

abbrev pub invariant-loop-device : goal.invariant-loop-device
invariant-loop-device l = l.faults.items ≡ l.initial.faults.items ++ s11 (take l.device-index l.devices)
