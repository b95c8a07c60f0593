use Rattle.std.proofs.Common.{◌≡◌, ℕ, ◌<◌, get_or}
use Rattle.pearl_calls.proofs.order.first_open.Given as goal

abbrev pub invariant-loop-procedure : goal.invariant-loop-procedure
invariant-loop-procedure l = (i : ℕ) → i < l.procedure → get_or l.open_calls i 0 ≡ 0
