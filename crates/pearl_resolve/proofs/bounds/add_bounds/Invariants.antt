use Rattle.std.proofs.Common.{◌≡◌, ◌++◌, map, take}
use Rattle.pearl_names.specs.Forms.{pair_of}
use Rattle.pearl_resolve.specs.Expressions.{bound_of}
use Rattle.pearl_resolve.proofs.bounds.add_bounds.Given as goal

abbrev pub invariant-loop-own : goal.invariant-loop-own
invariant-loop-own l = l.into.items ≡ l.fn.into.items ++ map bound_of (map pair_of (take l.own-index l.bounds))
