use Rattle.std.proofs.Common.{take}
use Rattle.pearl_calls.proofs.Closing.{Closed}
use Rattle.pearl_calls.proofs.order.close_calls.Given as goal

abbrev pub invariant-loop-procedure : goal.invariant-loop-procedure
invariant-loop-procedure l =
    Closed (take l.procedure-index l.calling) l.initial.open_calls.items l.open_calls.items l.initial.ready l.ready
