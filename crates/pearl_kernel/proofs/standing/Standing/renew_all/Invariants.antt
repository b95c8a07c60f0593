use Rattle.std.proofs.Common.{◌≡◌, length}
use Rattle.pearl_kernel.proofs.Renewing.{IsRenewedTo}
use Rattle.pearl_kernel.proofs.standing.Standing.renew_all.Given as goal

abbrev pub invariant-loop-task : goal.invariant-loop-task
invariant-loop-task l = record {
  to : IsRenewedTo l.state l.changed l.fn.self l.self l.task;
  all : l.count ≡ length l.state.core.tasks;
}
