use Rattle.std.proofs.Common.{◌≡◌, take, map}
use Rattle.pearl_gen_expr.specs.ExprCode.{bounds_of}
use Rattle.pearl_gen_expr.proofs.bounds.index_bounds.Given as goal

abbrev pub invariant-loop-bound : goal.invariant-loop-bound
invariant-loop-bound l = l.list.items ≡ map bounds_of (take l.bound-index l.bounds)
