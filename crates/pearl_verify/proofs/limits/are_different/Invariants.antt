use Rattle.std.proofs.Common.{◌≡◌, drop}
use Rattle.pearl_instructions.specs.Valid.{are_different}
use Rattle.pearl_verify.proofs.limits.are_different.Given as goal

abbrev pub invariant-loop-i : goal.invariant-loop-i
invariant-loop-i l = are_different l.numbers ≡ are_different (drop l.i l.numbers)
