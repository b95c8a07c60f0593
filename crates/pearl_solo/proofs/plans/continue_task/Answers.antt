use Rattle.std.proofs.Common.{Some, refl, ap, ◌∙◌}
use Rattle.pearl_rules.specs.declared.action.Action.TheVariants as action
use Rattle.pearl_silent.proofs.Offered.{offers_does}
use Rattle.pearl_solo.proofs.PlanRows.{plan_there, plan_offers, plan_traps}
use Rattle.pearl_solo.proofs.plans.continue_task.Goals as goal

pub start-requires-clause-some : goal.start-requires-clause-some
start-requires-clause-some c = plan_there (λ when. action.Continue c.args.task when) c.args.form c.args.stack.now.frames c.args.stack.now.room c.requires.ready

pub returns-in-Ok : goal.returns-in-Ok
returns-in-Ok c =
    let at = plan_offers (λ when. action.Continue c.args.task when) c.args.form c.args.stack.now.frames c.args.stack.now.room c.in-Ok.when c.requires.ready (c.start.ensures ∙ ap Some c.in-Ok.is) in
    (at.0, at.1, refl)

pub returns-in-Err : goal.returns-in-Err
returns-in-Err c =
    offers_does _ c.args.stack.now _ _
    (plan_traps (λ when. action.Continue c.args.task when) c.args.form c.args.stack.now.frames c.args.stack.now.room c.in-Err.trap c.requires.ready (c.start.ensures ∙ ap Some c.in-Err.is))
