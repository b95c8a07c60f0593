use Rattle.std.proofs.Common.{◌≡◌, Some, refl, ap, ◌∙◌, subst}
use Rattle.pearl_rules.specs.declared.action.Action.TheVariants as action
use Rattle.pearl_stack.specs.Frames.{top_operands}
use Rattle.pearl_instructions.specs.Offers.{as_start}
use Rattle.pearl_solo.specs.Plans.{begins_with}
use Rattle.pearl_silent.proofs.Offered.{offers_does}
use Rattle.pearl_solo.proofs.PlanRows.{plan_there, plan_offers, plan_traps}
use Rattle.pearl_solo.proofs.plans.resume.Goals as goal

pub start-requires-clause-small : goal.start-requires-clause-small
start-requires-clause-small c = rw c.as_start.ensures c.requires.small

pub start-requires-clause-some : goal.start-requires-clause-some
start-requires-clause-some c =
    rw c.as_start.ensures (plan_there (λ when. action.Resume when) (as_start c.args.form) c.args.stack.now.frames c.args.stack.now.room c.requires.ready)

pub returns-in-Ok : goal.returns-in-Ok
returns-in-Ok c =
    let told = subst (λ f. begins_with f (top_operands c.args.stack.now.frames) ≡ Some c.start.result) c.as_start.ensures c.start.ensures in
    let at = plan_offers (λ when. action.Resume when) (as_start c.args.form) c.args.stack.now.frames c.args.stack.now.room c.in-Ok.when c.requires.ready (told ∙ ap Some c.in-Ok.is) in
    (at.0, at.1, refl)

pub returns-in-Err : goal.returns-in-Err
returns-in-Err c =
    let told = subst (λ f. begins_with f (top_operands c.args.stack.now.frames) ≡ Some c.start.result) c.as_start.ensures c.start.ensures in
    offers_does _ c.args.stack.now _ _
    (plan_traps (λ when. action.Resume when) (as_start c.args.form) c.args.stack.now.frames c.args.stack.now.room c.in-Err.trap c.requires.ready (told ∙ ap Some c.in-Err.is))
