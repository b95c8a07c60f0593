use Rattle.std.proofs.Common.{◌≡◌, drop, length}
use Rattle.pearl_instructions.specs.Operands.{same_shape}
use Rattle.pearl_verify.proofs.same.same_list.Given as goal

abbrev pub invariant-loop-i : goal.invariant-loop-i
invariant-loop-i l = (same_shape l.one l.other ≡ same_shape (drop l.i l.one) (drop l.i l.other)) × (length l.one ≡ length l.other)
