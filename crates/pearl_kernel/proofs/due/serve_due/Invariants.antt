use Rattle.std.proofs.Common.{◌≡◌, ◌≤◌, ◌-◌, length}
use Rattle.pearl_rules.specs.Plans.{each_task, served}
use Rattle.pearl_kernel.specs.Eligible.{IsStandOf}
use Rattle.pearl_kernel.proofs.due.serve_due.Given as goal

abbrev pub invariant-loop-task : goal.invariant-loop-task
invariant-loop-task l = record {
  same : l.state ≡ record l.fn.state { core = each_task served l.from l.fn.state.core };
  low : l.from ≤ length l.fn.state.core.tasks;
  stand : IsStandOf l.state l.standing;
}

abbrev pub decreases-loop-task : goal.decreases-loop-task
decreases-loop-task l = 200 - l.from
