use Rattle.std.proofs.Common.{◌≡◌, drop}
use Rattle.pearl_instructions.specs.Kinds.{are_fixed}
use Rattle.pearl_verify.proofs.exact.are_fixed.Given as goal

abbrev pub invariant-loop-kind : goal.invariant-loop-kind
invariant-loop-kind l = are_fixed l.cells ≡ are_fixed (drop l.kind-index l.cells)
