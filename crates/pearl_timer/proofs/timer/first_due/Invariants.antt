use Rattle.std.proofs.Common.{ℕ, ◌≤◌, ◌<◌}
use Rattle.pearl_timer.specs.Timetable.{IsTaskDue}
use Rattle.pearl_timer.specs.Kept.{both}
use Rattle.pearl_timer.proofs.timer.first_due.Given as goal

abbrev pub invariant-loop-task : goal.invariant-loop-task
invariant-loop-task l = (other : ℕ) → l.from ≤ other → other < l.task → IsTaskDue (both l.continuations l.activations) l.moment other → ⊥
