use Rattle.std.proofs.Common.{◌≡◌, ◌≤◌, ◌-◌, drop, replicate}
use Rattle.pearl_instructions.specs.Opcodes.{SomeFixed}
use Rattle.pearl_instructions.specs.Operands.{v2}
use Rattle.pearl_verify.proofs.operands.are_fixed.Given as goal

abbrev pub invariant-loop-below : goal.invariant-loop-below
invariant-loop-below l = (v2 (replicate l.count SomeFixed) l.kinds ≡ v2 (replicate (l.count - l.below) SomeFixed) (drop l.below l.kinds)) × (l.below ≤ l.count)
