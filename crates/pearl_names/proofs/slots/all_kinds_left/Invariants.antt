use Rattle.std.proofs.Common.{List, drop}
use Rattle.pearl_value.specs.declared.kind.Kind.{Kind}
use Rattle.pearl_names.specs.Walks.{AllLeft}
use Rattle.pearl_names.proofs.Walking.{Gathered}
use Rattle.pearl_names.proofs.slots.all_kinds_left.Given as goal

abbrev pub invariant-loop-frame : goal.invariant-loop-frame
invariant-loop-frame l = (slots : List Kind) → AllLeft l.forms l.stack slots → Gathered l.forms (drop l.frame-index l.stack) l.kinds slots
