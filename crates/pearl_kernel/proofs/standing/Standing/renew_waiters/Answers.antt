use Rattle.std.proofs.Common.{◌<◌, None, length, subst}
use Rattle.pearl_kernel.specs.declared.changes.Changed.TheVariants.{Counts}
use Rattle.pearl_sema.specs.Waiting.{Waits}
use Rattle.pearl_kernel.specs.Requests.{requests}
use Rattle.pearl_kernel.proofs.Requesting.{waits-there}
use Rattle.pearl_kernel.proofs.Renewing.{IsBehindIf, none-renewed, fewer-left, waiter-renewed, renewed-less}
use Rattle.pearl_kernel.proofs.standing.Standing.renew_waiters.Goals as goal

pub loop-task-init : goal.loop-task-init
loop-task-init c = none-renewed c.args.state.now Counts (IsBehindIf (λ t. Waits (requests c.args.state.now.offers) c.args.semaphore t) None)
    c.args.self.now (λ t waits. tt)

pub loop-task-smaller : goal.loop-task-smaller
loop-task-smaller c =
    let k = c.args.state.now in
    let next = c.in-Some.ensures in
    let there = subst (λ n. c.in-Some.task < n) c.requires.same (waits-there k.offers c.args.semaphore c.in-Some.task next.waits) in
    fewer-left (length k.core.tasks) c.loop-task.after c.in-Some.task next.behind there

pub loop-task-preserved : goal.loop-task-preserved
loop-task-preserved c =
    waiter-renewed c.args.state.now Counts (λ t. Waits (requests c.args.state.now.offers) c.args.semaphore t)
    c.loop-task.after c.in-Some.task c.args.self.now c.loop-task.self c.renew_one.new.self c.in-Some.ensures.first c.loop-task.invariant c.renew_one.ensures

pub returns : goal.returns
returns c = renewed-less c.args.state.now Counts _ _ c.args.self.now c.loop-task.self
    (λ t left waits. c.in_default.ensures t (left waits) waits) c.loop-task.invariant
