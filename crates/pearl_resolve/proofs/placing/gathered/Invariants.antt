use Rattle.std.proofs.Common.{◌≡◌, ◌++◌, length}
use Rattle.std.specs.Vec.Iter.{into_iter_items, into_iter_len}
use Rattle.pearl_resolve.specs.Placing.{collected}
use Rattle.pearl_resolve.proofs.placing.gathered.Given as goal

abbrev pub invariant-loop-place : goal.invariant-loop-place
invariant-loop-place l =
    (l.made.items ++ collected (into_iter_items l.place-iterator) ≡ collected l.fn.places.items) ×
    (into_iter_len l.place-iterator ≡ length (into_iter_items l.place-iterator))
