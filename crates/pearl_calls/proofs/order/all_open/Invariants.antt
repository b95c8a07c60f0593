use Rattle.std.proofs.Common.{◌≡◌, [], map, take}
use Rattle.pearl_calls.specs.Callers.{Caller}
use Rattle.pearl_calls.specs.Marks.{open_among}
use Rattle.pearl_calls.proofs.order.all_open.Given as goal

abbrev pub invariant-loop-caller : goal.invariant-loop-caller
invariant-loop-caller l =
    l.open_calls.items ≡ map (λ (caller : Caller). open_among l.callers [] caller.calls) (take l.caller-index l.callers)
