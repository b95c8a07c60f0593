use Rattle.std.proofs.Common.{take}
use Rattle.pearl_calls.proofs.Closing.{Added}
use Rattle.pearl_calls.proofs.order.Calling.add_calls.Given as goal

abbrev pub invariant-loop-callee : goal.invariant-loop-callee
invariant-loop-callee l = Added l.caller (take l.callee-index l.calls) l.initial.self l.self
