use Rattle.pearl_calls.proofs.Closing.{Collected}
use Rattle.pearl_calls.proofs.order.Calling.of.Given as goal

abbrev pub invariant-loop-number : goal.invariant-loop-number
invariant-loop-number l = Collected l.callers l.number l.calling
