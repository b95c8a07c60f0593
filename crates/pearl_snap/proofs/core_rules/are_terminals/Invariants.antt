use Rattle.pearl_records.specs.States.{WaitsTyped}
use Rattle.pearl_snap.proofs.Alls.{Left}
use Rattle.pearl_snap.proofs.core_rules.are_terminals.Given as goal

abbrev pub invariant-loop-pending : goal.invariant-loop-pending
invariant-loop-pending l = Left WaitsTyped l.terminals l.pending-index
