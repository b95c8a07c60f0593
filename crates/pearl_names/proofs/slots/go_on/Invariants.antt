use Rattle.std.proofs.Common.{List}
use Rattle.pearl_value.specs.declared.kind.Kind.{Kind}
use Rattle.pearl_names.specs.Walks.{AllLeft, weight}
use Rattle.pearl_names.proofs.slots.go_on.Given as goal

abbrev pub invariant-loop-frame : goal.invariant-loop-frame
invariant-loop-frame l = (left : List Kind) → AllLeft l.forms l.fn.stack.items left → AllLeft l.forms l.stack.items left

abbrev pub decreases-loop-frame : goal.decreases-loop-frame
decreases-loop-frame l = weight l.stack.items
