use Rattle.std.proofs.Common.{◌≡◌, ◌++◌, take}
use Rattle.pearl_system.specs.Rules.{s13}
use Rattle.pearl_system.proofs.rules.add_s13.Given as goal

abbrev pub invariant-loop-name : goal.invariant-loop-name
invariant-loop-name l = l.faults.items ≡ l.initial.faults.items ++ s13 l.devices (take l.name-index l.names)
