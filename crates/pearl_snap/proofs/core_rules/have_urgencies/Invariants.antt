use Rattle.pearl_records.specs.States.{HasUrgencies}
use Rattle.pearl_snap.proofs.Alls.{Left}
use Rattle.pearl_snap.proofs.core_rules.have_urgencies.Given as goal

abbrev pub invariant-loop-row : goal.invariant-loop-row
invariant-loop-row l = Left HasUrgencies l.rows l.row-index
