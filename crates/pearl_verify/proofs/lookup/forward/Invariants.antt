use Rattle.std.proofs.Common.{◌≡◌}
use Rattle.pearl_instructions.specs.Valid.{shape_before}
use Rattle.pearl_verify.specs.Numbers.{IsNumbered}
use Rattle.pearl_verify.proofs.lookup.forward.Given as goal

abbrev pub invariant-loop-at : goal.invariant-loop-at
invariant-loop-at l =
    (l.running.kinds ≡ shape_before l.object l.routine l.code l.at) × IsNumbered l.jumps.tree.edges l.running
