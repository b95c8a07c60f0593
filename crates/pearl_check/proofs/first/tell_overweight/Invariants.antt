use Rattle.std.proofs.Common.{length}
use Rattle.pearl_check.proofs.TellingModules.{TellsWeights}
use Rattle.pearl_check.proofs.first.tell_overweight.Given as goal

abbrev pub invariant-loop-places : goal.invariant-loop-places
invariant-loop-places l = TellsWeights l.weights.procedures.now l.fn.places l.places l.fn.callers l.callers l.fn.told l.told

abbrev pub decreases-loop-places : goal.decreases-loop-places
decreases-loop-places l = length l.places
