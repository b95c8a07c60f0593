use Rattle.std.proofs.Common.{ℕ, List, length}
use Rattle.pearl_names.specs.Layout.{Leaf}
use Rattle.pearl_resolve_tables.specs.Walks.{AllLeft}
use Rattle.pearl_resolve_tables.proofs.walk.go_on.Given as goal

abbrev pub invariant-loop-frame : goal.invariant-loop-frame
invariant-loop-frame l = (base : List ℕ) (left : List Leaf) → AllLeft l.forms l.asked base l.fn.frames.items l.fn.name.items left →
    AllLeft l.forms l.asked base l.frames.items l.name.items left

abbrev pub decreases-loop-frame : goal.decreases-loop-frame
decreases-loop-frame l = length l.frames.items
