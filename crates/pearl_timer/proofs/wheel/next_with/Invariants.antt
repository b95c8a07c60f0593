use Rattle.std.proofs.Common.{◌≢◌, ℕ, ◌≤◌, ◌<◌, ◌-◌, Some, None, get_or}
use Rattle.pearl_timer.proofs.wheel.next_with.Given as goal

abbrev pub invariant-loop-key : goal.invariant-loop-key
invariant-loop-key l =
    (l.start ≤ 448) × (l.from ≤ l.start) × ((key : ℕ) → l.from ≤ key → key < l.start → get_or l.moments key None ≢ Some l.when)

abbrev pub decreases-loop-key : goal.decreases-loop-key
decreases-loop-key l = 448 - l.start
