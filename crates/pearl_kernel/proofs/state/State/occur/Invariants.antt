use Rattle.std.proofs.Common.{◌≡◌, length}
use Rattle.pearl_rules.specs.Plans.{each_task, reached}
use Rattle.pearl_kernel.proofs.state.State.occur.Given as goal

abbrev pub invariant-loop-task : goal.invariant-loop-task
invariant-loop-task l = record {
  same : l.self ≡ record l.fn.self { core = each_task (reached l.interrupt) l.task l.fn.self.core };
  all : l.count ≡ length l.fn.self.core.tasks;
}
