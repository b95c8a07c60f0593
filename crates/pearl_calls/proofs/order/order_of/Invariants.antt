use Rattle.std.proofs.Common.{length}
use Rattle.pearl_calls.proofs.Waiting.{Between, waiting}
use Rattle.pearl_calls.proofs.order.order_of.Given as goal

abbrev pub invariant-loop-procedure : goal.invariant-loop-procedure
invariant-loop-procedure l = Between l.callers l.order.items l.open_calls.items l.ready

abbrev pub decreases-loop-procedure : goal.decreases-loop-procedure
decreases-loop-procedure l = waiting l.callers l.order.items (length l.callers)
