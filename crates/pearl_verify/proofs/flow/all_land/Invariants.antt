use Rattle.std.proofs.Common.{◌≡◌, drop}
use Rattle.std.specs.List.{list_all}
use Rattle.pearl_instructions.specs.Operands.{same_shape}
use Rattle.pearl_instructions.specs.Valid.{shape_before}
use Rattle.pearl_verify.proofs.flow.all_land.Given as goal

abbrev pub invariant-loop-to : goal.invariant-loop-to
invariant-loop-to l =
    list_all (λ t. same_shape (shape_before l.object l.routine l.code t) l.running.kinds) l.list
    ≡ list_all (λ t. same_shape (shape_before l.object l.routine l.code t) l.running.kinds) (drop l.to-index l.list)
