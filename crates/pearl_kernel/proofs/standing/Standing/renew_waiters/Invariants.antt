use Rattle.std.proofs.Common.{length}
use Rattle.pearl_kernel.specs.declared.changes.Changed.TheVariants.{Counts}
use Rattle.pearl_kernel.specs.Changes.{AreRenewedBut}
use Rattle.pearl_sema.specs.Waiting.{Waits}
use Rattle.pearl_kernel.specs.Requests.{requests}
use Rattle.pearl_kernel.proofs.Renewing.{IsBehindIf, left_behind}
use Rattle.pearl_kernel.proofs.standing.Standing.renew_waiters.Given as goal

abbrev pub invariant-loop-task : goal.invariant-loop-task
invariant-loop-task l =
    AreRenewedBut l.state Counts (IsBehindIf (λ t. Waits (requests l.state.offers) l.semaphore t) l.after) l.fn.self l.self

abbrev pub decreases-loop-task : goal.decreases-loop-task
decreases-loop-task l = left_behind (length l.state.core.tasks) l.after
