use Rattle.std.proofs.Common.{sym, ap, ◌∙◌, subst}
use Rattle.std.specs.Prelude.{IsSome}
use Rattle.pearl_instructions.specs.declared.schedule.StartForm.TheVariants as form
use Rattle.pearl_stack.specs.Frames.{top_operands}
use Rattle.pearl_solo.specs.Plans.{begins_with}
use Rattle.pearl_solo.proofs.PlanRows.{looked, at_long, after_long, when_after_long}
use Rattle.pearl_solo.proofs.plans.start.Goals as goal

pub operand-requires-clause-there : goal.operand-requires-clause-there
operand-requires-clause-there c =
    at_long (top_operands c.args.stack.now.frames) (subst (λ f. IsSome (begins_with f (top_operands c.args.stack.now.frames))) c.in-At.is c.requires.some)

pub operand-requires-in-After-clause-there : goal.operand-requires-in-After-clause-there
operand-requires-in-After-clause-there c =
    after_long (top_operands c.args.stack.now.frames) (subst (λ f. IsSome (begins_with f (top_operands c.args.stack.now.frames))) c.in-After.is c.requires.some)

pub operand-requires-in-WhenAfter-clause-there : goal.operand-requires-in-WhenAfter-clause-there
operand-requires-in-WhenAfter-clause-there c =
    when_after_long c.in-WhenAfter.device (top_operands c.args.stack.now.frames)
    (subst (λ f. IsSome (begins_with f (top_operands c.args.stack.now.frames))) c.in-WhenAfter.is c.requires.some)

pub start_at-requires-clause-some : goal.start_at-requires-clause-some
start_at-requires-clause-some c =
    rw (sym (looked form.At (top_operands c.args.stack.now.frames) c.operand.result.now c.operand.ensures))
    (subst (λ f. IsSome (begins_with f (top_operands c.args.stack.now.frames))) c.in-At.is c.requires.some)

pub start_at-requires-in-After-clause-some : goal.start_at-requires-in-After-clause-some
start_at-requires-in-After-clause-some c =
    rw (sym (looked form.After (top_operands c.args.stack.now.frames) c.operand-in-After.result.now c.operand-in-After.ensures))
    (subst (λ f. IsSome (begins_with f (top_operands c.args.stack.now.frames))) c.in-After.is c.requires.some)

pub start_at-requires-in-WhenAfter-clause-some : goal.start_at-requires-in-WhenAfter-clause-some
start_at-requires-in-WhenAfter-clause-some c =
    rw (sym (looked (form.WhenAfter c.in-WhenAfter.device) (top_operands c.args.stack.now.frames) c.operand-in-WhenAfter.result.now c.operand-in-WhenAfter.ensures))
    (subst (λ f. IsSome (begins_with f (top_operands c.args.stack.now.frames))) c.in-WhenAfter.is c.requires.some)

pub returns-in-At : goal.returns-in-At
returns-in-At c =
    ap (λ f. begins_with f (top_operands c.args.stack.now.frames)) c.in-At.is
    ∙ (looked form.At (top_operands c.args.stack.now.frames) c.operand.result.now c.operand.ensures ∙ c.start_at.ensures)

pub returns-in-After : goal.returns-in-After
returns-in-After c =
    ap (λ f. begins_with f (top_operands c.args.stack.now.frames)) c.in-After.is
    ∙ (looked form.After (top_operands c.args.stack.now.frames) c.operand-in-After.result.now c.operand-in-After.ensures ∙ c.start_at-in-After.ensures)

pub returns-in-WhenAfter : goal.returns-in-WhenAfter
returns-in-WhenAfter c =
    ap (λ f. begins_with f (top_operands c.args.stack.now.frames)) c.in-WhenAfter.is
    ∙ (looked (form.WhenAfter c.in-WhenAfter.device) (top_operands c.args.stack.now.frames) c.operand-in-WhenAfter.result.now c.operand-in-WhenAfter.ensures ∙ c.start_at-in-WhenAfter.ensures)
