use Rattle.std.proofs.Common.{◌≡◌, drop, slice_get}
use Rattle.std.specs.Prelude.{◌||◌, nat_lt}
use Rattle.std.specs.List.{list_all}
use Rattle.pearl_instructions.specs.Valid.{is_turn}
use Rattle.pearl_verify.proofs.flow.may_go_to_all.Given as goal

abbrev pub invariant-loop-to : goal.invariant-loop-to
invariant-loop-to l =
    list_all (λ t. nat_lt l.i t || is_turn (slice_get l.code.instructions t)) l.list
    ≡ list_all (λ t. nat_lt l.i t || is_turn (slice_get l.code.instructions t)) (drop l.to-index l.list)
