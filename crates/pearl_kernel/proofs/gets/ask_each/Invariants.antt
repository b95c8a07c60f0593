use Rattle.std.proofs.Common.{ℕ, ◌<◌, length}
use Rattle.std.specs.Prelude.{IfSome}
use Rattle.pearl_sema.specs.Waiting.{IsBehind}
use Rattle.pearl_kernel.proofs.Getting.{IsAskedUpTo}
use Rattle.pearl_kernel.proofs.Renewing.{left_behind}
use Rattle.pearl_kernel.proofs.gets.ask_each.Given as goal

abbrev pub invariant-loop-task : goal.invariant-loop-task
invariant-loop-task l = record {
  to : IsAskedUpTo l.offers l.formats l.channels l.device l.fn.progress.items l.progress.items l.after;
  known : IfSome l.known (λ u. (n : ℕ) → IsBehind l.after n → u < n);
}

abbrev pub decreases-loop-task : goal.decreases-loop-task
decreases-loop-task l = left_behind (length l.offers) l.after
