use Rattle.std.proofs.Common.{◌≡◌, true, nat_eq, subst}
use Rattle.std.specs.List.{list_any}
use Rattle.pearl_calls.proofs.Following.{only_procedures}
use Rattle.pearl_calls.proofs.numbering.number_procedures.Goals as goal

pub numbers_in-requires-clause-below : goal.numbers_in-requires-clause-below
numbers_in-requires-clause-below c =
    let numbering = rw c.in-Some.is at c.in_ok-order.ensures.order in
    λ p member. only_procedures c.args.callers.now c.in-Some.order.items p numbering
    (subst (λ z. list_any (nat_eq p) z ≡ true) c.as_slice.ensures.value member)
