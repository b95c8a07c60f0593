use Rattle.std.proofs.Common.{◌≡◌, ◌++◌, take, map}
use Rattle.pearl_scope.specs.Parts.{Bounds}
use Rattle.pearl_scope.specs.PartLists.{parts_in}
use Rattle.pearl_scope.proofs.part.add_bounds.Given as goal

abbrev pub invariant-loop-bound : goal.invariant-loop-bound
invariant-loop-bound l = parts_in l.parts.items ≡ parts_in l.fn.parts.items ++ map Bounds (take l.bound-index l.bounds)
