use Rattle.std.proofs.Common.{take}
use Rattle.pearl_scope.proofs.Seen.{Told}
use Rattle.pearl_scope.proofs.rules.tell_repeats.Given as goal

abbrev pub invariant-loop-name : goal.invariant-loop-name
invariant-loop-name l = Told l.fn.seen.entries l.seen.entries l.fn.faults.items l.faults.items (take l.name-index l.names)
