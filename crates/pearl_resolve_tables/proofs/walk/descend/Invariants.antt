use Rattle.std.proofs.Common.{◌≡◌, ℕ, true, ◌++◌, List, length}
use Rattle.pearl_names.specs.Layout.{Leaf}
use Rattle.pearl_resolve_tables.specs.Laying.{path_name}
use Rattle.pearl_resolve_tables.specs.Walks.{HasLeaves, AllLeft}
use Rattle.pearl_resolve_tables.proofs.Walking.{Descends}
use Rattle.pearl_resolve_tables.proofs.walk.descend.Given as goal

abbrev pub invariant-loop-part : goal.invariant-loop-part
invariant-loop-part l =
    (base : List ℕ) (path : List (List ℕ)) (own left : List Leaf) → (l.asked ≡ true → l.fn.name.items ≡ path_name base path) →
    HasLeaves l.forms l.fn.part l.fn.count path own → AllLeft l.forms l.asked base l.fn.frames.items l.fn.name.items left →
    Descends l.forms l.earlier l.asked base l.part l.count l.frames.items l.name.items (own ++ left)

abbrev pub decreases-loop-part : goal.decreases-loop-part
decreases-loop-part l = length l.earlier
