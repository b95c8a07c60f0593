use Rattle.pearl_snap.proofs.Climbing.{Above}
use Rattle.pearl_snap.proofs.reference_rule.stack_leads.Given as goal

abbrev pub invariant-loop-at : goal.invariant-loop-at
invariant-loop-at l = Above l.slots l.frames l.at
