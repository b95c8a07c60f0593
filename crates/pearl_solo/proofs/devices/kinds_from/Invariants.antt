use Rattle.std.proofs.Common.{◌≡◌, ◌≤◌, drop, take, length, Some}
use Rattle.pearl_instructions.specs.Offers.{value_kinds}
use Rattle.pearl_silent.specs.Steps.{top_cells}
use Rattle.pearl_solo.proofs.devices.kinds_from.Given as goal

abbrev pub invariant-loop-i : goal.invariant-loop-i
invariant-loop-i l = (value_kinds (take l.i (drop l.first (top_cells l.stack.frames))) ≡ Some l.kinds.items) × (length l.kinds.items ≤ l.i)
