use Rattle.std.proofs.Common.{◌≡◌, [], map, replicate, length}
use Rattle.pearl_calls.proofs.order.Calling.none.Given as goal

abbrev pub invariant-rows : goal.invariant-rows
invariant-rows l =
    (map (λ list. list.items) l.lists.items ≡ replicate (length l.lists.items) []) × (length l.lists.items ≡ l.counter)
