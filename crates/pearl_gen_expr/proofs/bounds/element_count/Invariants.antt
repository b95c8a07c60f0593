use Rattle.std.proofs.Common.{◌≡◌, ◌*◌, drop}
use Rattle.pearl_program.specs.Typing.{elements}
use Rattle.pearl_gen_expr.proofs.bounds.element_count.Given as goal

abbrev pub invariant-loop-bound : goal.invariant-loop-bound
invariant-loop-bound l = l.count * elements (drop l.bound-index l.bounds) ≡ elements l.bounds
