use Rattle.pearl_snap.proofs.Asking.{Goes}
use Rattle.pearl_snap.proofs.stack_rule.ask_tasks.Given as goal

abbrev pub invariant-loop-task : goal.invariant-loop-task
invariant-loop-task l = Goes l.object l.fn.asked.items l.asked.items l.rows l.stacks l.task
