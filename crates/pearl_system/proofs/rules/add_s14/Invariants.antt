use Rattle.std.proofs.Common.{◌≡◌, ◌++◌, take}
use Rattle.pearl_system.specs.Rules.{s14}
use Rattle.pearl_system.proofs.rules.add_s14.Given as goal

abbrev pub invariant-loop-name : goal.invariant-loop-name
invariant-loop-name l = l.faults.items ≡ l.initial.faults.items ++ s14 l.devices (take l.name-index l.names)
