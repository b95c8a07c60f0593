use Rattle.std.proofs.Common.{◌≡◌, drop}
use Rattle.std.specs.Prelude.{int_le}
use Rattle.std.specs.List.{list_all}
use Rattle.pearl_verify.proofs.limits.are_ordered.Given as goal

abbrev pub invariant-loop-pair : goal.invariant-loop-pair
invariant-loop-pair l = list_all (λ b. int_le b.low b.high) l.bounds ≡ list_all (λ b. int_le b.low b.high) (drop l.pair-index l.bounds)
