use Rattle.pearl_instructions.specs.Setups.{setup_of}
use Rattle.pearl_records.specs.States.{IsPlanned}
use Rattle.pearl_snap.proofs.Alls.{Left}
use Rattle.pearl_snap.proofs.core_rules.has_plans.Given as goal

abbrev pub invariant-loop-row : goal.invariant-loop-row
invariant-loop-row l = Left (IsPlanned (setup_of l.object)) l.core.tasks l.row-index
