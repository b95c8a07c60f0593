use Rattle.pearl_records.proofs.Making.{IsMade}
use Rattle.pearl_records.proofs.rows.rows_made.Given as goal

abbrev pub invariant-loop-place : goal.invariant-loop-place
invariant-loop-place l = IsMade l.entries l.tasks l.place l.rows.items
