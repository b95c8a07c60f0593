use Rattle.std.proofs.Common.{◌≡◌, ◌<◌, length, sym, subst, ◌∙◌, arith}
use Rattle.pearl_rules.specs.Pick.{pick}
use Rattle.pearl_kernel.specs.Kept.{Kept, offered}
use Rattle.pearl_kernel.proofs.Picking.{best-found, best-there}
use Rattle.pearl_kernel.proofs.kernel.Kernel.picked.Goals as goal

pub returns-in_err-task-clause-picked : goal.returns-in_err-task-clause-picked
returns-in_err-task-clause-picked c =
    let s = c.self.inside in
    let found = best-found s.state s.standing.set c.last.result c.best.result c.self.invariant.stand.ready c.last.ensures
    c.best.ensures.found in
    c.from_residual.ensures ∙ sym c.in_err-task.was
    ∙ subst (λ (k : Kept). c.best.result ≡ pick k.core (offered k)) c.self.view_is found

pub overflow_cast-result : goal.overflow_cast-result
overflow_cast-result c =
    let s = c.self.inside in
    let there = best-there s.state s.standing.set c.last.result c.in_ok-task.task c.self.invariant.stand.ready
    c.in_ok-task.ensures.rule in
    omega (arith, there, c.self.invariant.few)

pub returns-clause-picked : goal.returns-clause-picked
returns-clause-picked c =
    let s = c.self.inside in
    let found = best-found s.state s.standing.set c.last.result c.best.result c.self.invariant.stand.ready c.last.ensures
    c.best.ensures.found in
    sym c.in_ok-task.was ∙ subst (λ (k : Kept). c.best.result ≡ pick k.core (offered k)) c.self.view_is found

pub returns-clause-there : goal.returns-clause-there
returns-clause-there c =
    let s = c.self.inside in
    let there = best-there s.state s.standing.set c.last.result c.in_ok-task.task c.self.invariant.stand.ready
    c.in_ok-task.ensures.rule in
    subst (λ (k : Kept). c.in_ok-task.task < length k.core.tasks) c.self.view_is there
