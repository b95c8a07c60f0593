use Rattle.std.proofs.Common.{◌≡◌, ℕ, nat_lt, if◌then◌else◌}
use Rattle.pearl_calls.specs.Marks.{one_if, times, is_closed}
use Rattle.pearl_calls.proofs.order.all_closed.Given as goal

abbrev pub invariant-loop-procedure : goal.invariant-loop-procedure
invariant-loop-procedure l =
    (i : ℕ) → times i l.ready ≡ (if nat_lt i l.procedure then one_if (is_closed l.open_calls.items i) else 0)
