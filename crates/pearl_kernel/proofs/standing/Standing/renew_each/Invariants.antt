use Rattle.pearl_kernel.specs.declared.changes.Changed.TheVariants.{Counts}
use Rattle.pearl_kernel.specs.Changes.{AreRenewedBut}
use Rattle.pearl_kernel.proofs.Renewing.{WaitsForNone}
use Rattle.pearl_kernel.proofs.standing.Standing.renew_each.Given as goal

abbrev pub invariant-loop-semaphore : goal.invariant-loop-semaphore
invariant-loop-semaphore l =
    AreRenewedBut l.state Counts (WaitsForNone l.state l.list l.semaphore-index) l.fn.self l.self
