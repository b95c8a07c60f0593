use Rattle.pearl_rules.specs.Slots.{IsUrgency}
use Rattle.pearl_snap.proofs.Alls.{Left}
use Rattle.pearl_snap.proofs.core_rules.are_urgencies.Given as goal

abbrev pub invariant-loop-start : goal.invariant-loop-start
invariant-loop-start l = Left IsUrgency l.kept l.start-index
