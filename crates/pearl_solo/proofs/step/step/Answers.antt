use Rattle.std.proofs.Common.{◌≡◌, ◌≤◌, sym, ap, ◌∙◌, subst}
use Rattle.pearl_exchange.specs.Offers.{action_of}
use Rattle.pearl_stack.specs.Frames.{Stack}
use Rattle.pearl_instructions.specs.Rows.{row}
use Rattle.pearl_instructions.specs.Stacks.{task_of}
use Rattle.pearl_silent.specs.Steps.{Does}
use Rattle.pearl_solo.specs.Gives.{gave}
use Rattle.pearl_solo.proofs.step.step.Goals as goal

pub returns-in-Some-clause-does : goal.returns-in-Some-clause-does
returns-in-Some-clause-does c = subst (Does (row c.args.code.now c.args.stack.now.frames) c.args.stack.now c.quick_step.new.stack) (sym c.tell.ensures) c.in-Some.ensures.tries

pub step_other-requires-clause-other : goal.step_other-requires-clause-other
step_other-requires-clause-other c = rw c.in-None.ensures.tries.1 c.in-None.ensures.tries.0

pub returns-in-None-clause-does : goal.returns-in-None-clause-does
returns-in-None-clause-does c =
    subst (λ (s : Stack). Does (row c.args.code.now s.frames) s c.step_other.new.stack (gave c.step_other.result (action_of c.step_other.new.into))) c.in-None.ensures.tries.1 c.step_other.ensures.does

pub returns-in-None-clause-task : goal.returns-in-None-clause-task
returns-in-None-clause-task c = c.step_other.ensures.task ∙ c.in-None.ensures.task
