use Rattle.std.proofs.Common.{◌≡◌, length}
use Rattle.pearl_kernel.proofs.opening.no_progress.Given as goal

abbrev pub invariant-loop : goal.invariant-loop
invariant-loop l = length l.progress.items ≡ l.counter
