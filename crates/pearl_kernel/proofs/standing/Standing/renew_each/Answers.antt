use Rattle.std.proofs.Common.{◌≡◌, length, subst, arith}
use Rattle.pearl_kernel.specs.declared.changes.Changed.TheVariants.{Counts}
use Rattle.pearl_kernel.specs.Changes.{AreRenewedBut}
use Rattle.pearl_kernel.proofs.Renewing.{WaitsForNone, none-renewed, semaphore-renewed, all-renewed}
use Rattle.pearl_kernel.proofs.standing.Standing.renew_each.Goals as goal

pub loop-semaphore-init : goal.loop-semaphore-init
loop-semaphore-init c = none-renewed c.args.state.now Counts (WaitsForNone c.args.state.now c.args.list.now 0)
    c.args.self.now (λ t i less. absurd (omega arith))

pub loop-semaphore-preserved : goal.loop-semaphore-preserved
loop-semaphore-preserved c =
    let l = c.loop-semaphore in
    semaphore-renewed c.args.state.now c.args.list.now l.semaphore-index c.args.self.now l.self
    c.renew_waiters.new.self l.invariant c.renew_waiters.ensures

pub returns : goal.returns
returns c =
    let l = c.loop-semaphore in
    let end = l.auto.semaphore-index-end in
    let all : l.semaphore-index ≡ length c.args.list.now = omega arith in
    all-renewed c.args.state.now c.args.list.now c.args.self.now l.self
    (subst (λ n. AreRenewedBut c.args.state.now Counts (WaitsForNone c.args.state.now c.args.list.now n) c.args.self.now l.self)
    all l.invariant)
