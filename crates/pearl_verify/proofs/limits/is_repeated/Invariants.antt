use Rattle.std.proofs.Common.{◌≡◌, drop}
use Rattle.pearl_instructions.specs.Valid.{is_repeated}
use Rattle.pearl_verify.proofs.limits.is_repeated.Given as goal

abbrev pub invariant-loop-other : goal.invariant-loop-other
invariant-loop-other l = is_repeated l.number l.numbers ≡ is_repeated l.number (drop l.other-index l.numbers)
