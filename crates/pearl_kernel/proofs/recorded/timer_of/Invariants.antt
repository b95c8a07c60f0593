use Rattle.std.proofs.Common.{◌≡◌}
use Rattle.pearl_kernel.proofs.Rows.{filled}
use Rattle.pearl_kernel.proofs.recorded.timer_of.Given as goal

abbrev pub invariant-loop-task : goal.invariant-loop-task
invariant-loop-task l = l.timer ≡ filled l.rows l.task
