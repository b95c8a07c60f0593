use Rattle.std.proofs.Common.{◌≡◌, ◌++◌, take}
use Rattle.pearl_names.specs.Sorts.{names_as}
use Rattle.pearl_names.proofs.sorted.add_names.Given as goal

abbrev pub invariant-loop-name : goal.invariant-loop-name
invariant-loop-name l = l.into.items ≡ l.fn.into.items ++ names_as l.sort (take l.name-index l.names)
