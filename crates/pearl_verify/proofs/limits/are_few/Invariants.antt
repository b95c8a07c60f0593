use Rattle.std.proofs.Common.{◌≡◌, ◌≤◌, ◌*◌, drop}
use Rattle.pearl_instructions.specs.Valid.{elements}
use Rattle.pearl_verify.proofs.limits.are_few.Given as goal

abbrev pub invariant-loop-pair : goal.invariant-loop-pair
invariant-loop-pair l = (elements l.bounds ≡ l.size * elements (drop l.pair-index l.bounds)) × (l.size ≤ 65536)
