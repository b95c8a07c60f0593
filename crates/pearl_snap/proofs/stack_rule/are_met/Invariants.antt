use Rattle.std.proofs.Common.{◌≡◌}
use Rattle.pearl_snap.specs.Asking.{IsMet}
use Rattle.pearl_snap.proofs.Alls.{Left}
use Rattle.pearl_snap.proofs.stack_rule.are_met.Given as goal

abbrev pub invariant-loop-one : goal.invariant-loop-one
invariant-loop-one l = record { same : l.shapes.object ≡ l.object; left : Left (IsMet l.object) l.asked l.one-index }
