use Rattle.pearl_value.specs.Counts.{IsPreset}
use Rattle.pearl_snap.proofs.Alls.{Left}
use Rattle.pearl_snap.proofs.core_rules.are_counts.Given as goal

abbrev pub invariant-loop-count : goal.invariant-loop-count
invariant-loop-count l = Left IsPreset l.counts l.count-index
