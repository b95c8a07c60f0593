use Rattle.std.proofs.Common.{◌≡◌, ◌++◌, replicate}
use Rattle.pearl_machine.proofs.tables.push_copies.Given as goal

abbrev pub invariant-loop : goal.invariant-loop
invariant-loop l = l.slots.items ≡ l.initial.slots.items ++ replicate l.counter l.value
