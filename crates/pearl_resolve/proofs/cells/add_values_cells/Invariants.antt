use Rattle.std.proofs.Common.{◌≡◌, ◌++◌, map, take}
use Rattle.std.specs.List.{flat_map}
use Rattle.pearl_program.specs.PlainStatements.{plain_values}
use Rattle.pearl_resolve.specs.Holding.{values_cells}
use Rattle.pearl_resolve.proofs.cells.add_values_cells.Given as goal

abbrev pub invariant-loop-own : goal.invariant-loop-own
invariant-loop-own l = l.into.items ≡ l.fn.into.items ++ flat_map values_cells (map plain_values (take l.own-index l.values))
