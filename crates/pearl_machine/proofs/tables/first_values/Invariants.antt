use Rattle.std.proofs.Common.{◌≡◌, take}
use Rattle.std.specs.List.{flat_map}
use Rattle.pearl_instructions.specs.Setups.{first_cells}
use Rattle.pearl_machine.proofs.tables.first_values.Given as goal

abbrev pub invariant-loop-leaf : goal.invariant-loop-leaf
invariant-loop-leaf l = l.slots.items ≡ flat_map first_cells (take l.leaf-index l.leaves)
