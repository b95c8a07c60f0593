use Rattle.std.proofs.Common.{◌≡◌, ◌++◌, drop}
use Rattle.pearl_solo.proofs.table.semaphores.Given as goal

abbrev pub invariant-loop-n : goal.invariant-loop-n
invariant-loop-n l = l.numbers.items ++ drop l.n-index l.list ≡ l.list
