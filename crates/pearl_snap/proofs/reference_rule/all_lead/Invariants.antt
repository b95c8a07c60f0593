use Rattle.pearl_snap.specs.Leads.{Leads}
use Rattle.pearl_snap.proofs.Alls.{Left}
use Rattle.pearl_snap.proofs.reference_rule.all_lead.Given as goal

abbrev pub invariant-loop-cell : goal.invariant-loop-cell
invariant-loop-cell l = Left (Leads l.slots l.frames) l.cells l.cell-index
