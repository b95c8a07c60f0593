use Rattle.std.proofs.Common.{length}
use Rattle.pearl_check.proofs.TellingModules.{TellsCycles}
use Rattle.pearl_check.proofs.first.tell_cycles.Given as goal

abbrev pub invariant-loop-places : goal.invariant-loop-places
invariant-loop-places l = TellsCycles l.callers l.fn.places l.places l.number l.fn.told l.told

abbrev pub decreases-loop-places : goal.decreases-loop-places
decreases-loop-places l = length l.places
