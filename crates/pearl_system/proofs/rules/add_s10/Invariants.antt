use Rattle.std.proofs.Common.{◌≡◌, ◌++◌, take}
use Rattle.pearl_system.specs.FirstDevices.{IsIndex}
use Rattle.pearl_system.specs.Rules.{s10}
use Rattle.pearl_system.proofs.rules.add_s10.Given as goal

abbrev pub invariant-loop-at : goal.invariant-loop-at
invariant-loop-at l = IsIndex (take l.at l.devices) l.first.entries × (l.faults.items ≡ l.initial.faults.items ++ s10 (take l.at l.devices))
