use Rattle.std.proofs.Common.{◌≡◌, ◌++◌, take}
use Rattle.pearl_machine.proofs.tables.push_all.Given as goal

abbrev pub invariant-loop-value : goal.invariant-loop-value
invariant-loop-value l = l.slots.items ≡ l.initial.slots.items ++ take l.value-index l.values
