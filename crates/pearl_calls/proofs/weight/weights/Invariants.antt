use Rattle.std.proofs.Common.{take}
use Rattle.pearl_calls.proofs.Weighing.{Weighed}
use Rattle.pearl_calls.proofs.weight.weights.Given as goal

abbrev pub invariant-loop-procedure : goal.invariant-loop-procedure
invariant-loop-procedure l = Weighed l.callers (take l.procedure-index l.procedure-items) l.weights.items
