use Rattle.std.proofs.Common.{◌<◌, None, length, subst}
use Rattle.pearl_kernel.specs.declared.changes.Changed.TheVariants.{Device}
use Rattle.pearl_kernel.specs.Listening.{Listens}
use Rattle.pearl_kernel.proofs.Listeners.{listener-there}
use Rattle.pearl_kernel.proofs.Renewing.{IsBehindIf, none-renewed, fewer-left, waiter-renewed, renewed-less}
use Rattle.pearl_kernel.proofs.standing.Standing.renew_at.Goals as goal

pub loop-task-init : goal.loop-task-init
loop-task-init c =
    let k = c.args.state.now in
    none-renewed k (Device c.args.device) (IsBehindIf (λ t. Listens k.offers c.args.device t) None) c.args.self.now
    (λ t waits. tt)

pub loop-task-smaller : goal.loop-task-smaller
loop-task-smaller c =
    let k = c.args.state.now in
    let next = c.in-Some.ensures in
    let there = subst (λ n. c.in-Some.task < n) c.requires.same
    (listener-there k.offers c.args.device c.in-Some.task next.listens) in
    fewer-left (length k.core.tasks) c.loop-task.after c.in-Some.task next.behind there

pub loop-task-preserved : goal.loop-task-preserved
loop-task-preserved c =
    let k = c.args.state.now in
    waiter-renewed k (Device c.args.device) (λ t. Listens k.offers c.args.device t) c.loop-task.after c.in-Some.task
    c.args.self.now c.loop-task.self c.renew_one.new.self c.in-Some.ensures.first c.loop-task.invariant
    c.renew_one.ensures

pub returns : goal.returns
returns c = renewed-less c.args.state.now (Device c.args.device) _ _ c.args.self.now c.loop-task.self
    (λ t left waits. c.in_default.ensures t (left waits) waits) c.loop-task.invariant
