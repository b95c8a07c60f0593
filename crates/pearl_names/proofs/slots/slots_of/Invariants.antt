use Rattle.std.proofs.Common.{List, length, ◌-◌, ◌≤◌}
use Rattle.pearl_value.specs.declared.kind.Kind.{Kind}
use Rattle.pearl_names.specs.Walks.{HasSlots}
use Rattle.pearl_names.proofs.Walking.{Walked}
use Rattle.pearl_names.proofs.slots.slots_of.Given as goal

abbrev pub invariant-loop-next : goal.invariant-loop-next
invariant-loop-next l =
    (length l.runs.items ≤ l.most) ×
    ((slots : List Kind) → HasSlots l.forms l.fn.part l.elements slots → Walked l.forms l.next l.stack.items l.runs.items slots)

abbrev pub decreases-loop-next : goal.decreases-loop-next
decreases-loop-next l = l.most - length l.runs.items
