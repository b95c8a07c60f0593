use Rattle.std.proofs.Common.{take}
use Rattle.pearl_calls.specs.Marks.{MarksCallees}
use Rattle.pearl_calls.proofs.cycle.mark_callees.Given as goal

abbrev pub invariant-loop-number : goal.invariant-loop-number
invariant-loop-number l =
    MarksCallees (take l.number-index l.numbers) l.initial.marks.items l.marks.items l.initial.pending.items l.pending.items
