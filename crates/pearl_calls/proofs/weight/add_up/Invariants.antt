use Rattle.std.proofs.Common.{◌≡◌, take, slice_get}
use Rattle.std.specs.List.{filter_map}
use Rattle.pearl_calls.specs.Weights.{greatest}
use Rattle.pearl_calls.proofs.weight.add_up.Given as goal

abbrev pub invariant-loop-callee : goal.invariant-loop-callee
invariant-loop-callee l = l.most ≡ greatest (filter_map (slice_get l.weights) (take l.callee-index l.callee-items))
