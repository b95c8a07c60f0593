use Rattle.std.proofs.Common.{◌+◌, length}
use Rattle.pearl_calls.proofs.Search.{Searches}
use Rattle.pearl_calls.specs.Marks.{unmarked}
use Rattle.pearl_calls.proofs.cycle.calls_itself.Given as goal

abbrev pub invariant-loop-procedure : goal.invariant-loop-procedure
invariant-loop-procedure l = Searches l.callers l.start l.marks.items l.pending.items

abbrev pub decreases-loop-procedure : goal.decreases-loop-procedure
decreases-loop-procedure l = unmarked l.marks.items + length l.pending.items
