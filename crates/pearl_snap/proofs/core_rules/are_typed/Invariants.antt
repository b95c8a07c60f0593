use Rattle.pearl_value.specs.WellFormed.{IsTyped}
use Rattle.pearl_snap.proofs.Alls.{Left}
use Rattle.pearl_snap.proofs.core_rules.are_typed.Given as goal

abbrev pub invariant-loop-byte : goal.invariant-loop-byte
invariant-loop-byte l = Left IsTyped l.pending l.byte-index
