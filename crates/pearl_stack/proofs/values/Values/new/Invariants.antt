use Rattle.std.proofs.Common.{◌≡◌, ◌≤◌, length, vec_capacity}
use Rattle.pearl_stack.proofs.values.Values.new.Given as goal

abbrev pub invariant-loop : goal.invariant-loop
invariant-loop l = (length l.cells.items ≡ l.counter) × (l.initial.room ≤ vec_capacity l.cells)
