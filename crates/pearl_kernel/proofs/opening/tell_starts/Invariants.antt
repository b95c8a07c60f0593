use Rattle.std.proofs.Common.{◌≡◌, ◌≤◌, ◌++◌, length, drop}
use Rattle.pearl_rules.specs.Core.{first_events}
use Rattle.pearl_kernel.specs.Kept.{stamped}
use Rattle.pearl_kernel.proofs.opening.tell_starts.Given as goal

abbrev pub invariant-loop-task : goal.invariant-loop-task
invariant-loop-task l = record {
  few : length l.events ≤ l.task;
  told : stamped 0 l.events ++ first_events l.task (drop l.task l.tasks) ≡ first_events 0 l.tasks;
}
