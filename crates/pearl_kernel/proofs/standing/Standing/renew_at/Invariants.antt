use Rattle.std.proofs.Common.{length}
use Rattle.pearl_kernel.specs.declared.changes.Changed.TheVariants.{Device}
use Rattle.pearl_kernel.specs.Changes.{AreRenewedBut}
use Rattle.pearl_kernel.specs.Listening.{Listens}
use Rattle.pearl_kernel.proofs.Renewing.{IsBehindIf, left_behind}
use Rattle.pearl_kernel.proofs.standing.Standing.renew_at.Given as goal

abbrev pub invariant-loop-task : goal.invariant-loop-task
invariant-loop-task l =
    AreRenewedBut l.state (Device l.device) (IsBehindIf (λ t. Listens l.state.offers l.device t) l.after) l.fn.self l.self

abbrev pub decreases-loop-task : goal.decreases-loop-task
decreases-loop-task l = left_behind (length l.state.core.tasks) l.after
