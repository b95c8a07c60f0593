use Rattle.std.proofs.Common.{◌≡◌, ◌≤◌, [], take}
use Rattle.pearl_calls.specs.Marks.{open_among}
use Rattle.pearl_calls.proofs.order.open_at_first.Given as goal

abbrev pub invariant-loop-callee : goal.invariant-loop-callee
invariant-loop-callee l = (l.count ≡ open_among l.callers [] (take l.callee-index l.calls)) × (l.count ≤ l.callee-index)
