use Rattle.std.proofs.Common.{List, ◌++◌, ◌≤◌, length}
use Rattle.pearl_value.specs.declared.kind.Kind.{Kind}
use Rattle.pearl_names.specs.Forms.{leaf_count}
use Rattle.pearl_names.specs.Walks.{HasSlots, AllLeft}
use Rattle.pearl_names.proofs.Walking.{Descends}
use Rattle.pearl_names.proofs.slots.descend.Given as goal

abbrev pub invariant-loop-part : goal.invariant-loop-part
invariant-loop-part l =
    (slots left : List Kind) (found : HasSlots l.forms l.fn.part l.fn.count slots) → 1 ≤ leaf_count found.shape → AllLeft l.forms l.fn.stack.items left →
    Descends l.forms l.earlier l.part l.count l.stack.items (slots ++ left)

abbrev pub decreases-loop-part : goal.decreases-loop-part
decreases-loop-part l = length l.earlier
