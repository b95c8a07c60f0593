use Rattle.std.proofs.Common.{◌≡◌, drop}
use Rattle.std.specs.Prelude.{nat_lt}
use Rattle.std.specs.List.{list_all}
use Rattle.pearl_verify.proofs.routine.all_name.Given as goal

abbrev pub invariant-loop-shape : goal.invariant-loop-shape
invariant-loop-shape l = list_all (λ s. nat_lt s.instruction l.count) l.shapes ≡ list_all (λ s. nat_lt s.instruction l.count) (drop l.shape-index l.shapes)
