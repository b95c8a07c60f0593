use Rattle.pearl_snap.proofs.Asking.{Left}
use Rattle.pearl_snap.proofs.stack_rule.are_of.Given as goal

abbrev pub invariant-loop-at : goal.invariant-loop-at
invariant-loop-at l = Left l.kinds l.cells l.at
