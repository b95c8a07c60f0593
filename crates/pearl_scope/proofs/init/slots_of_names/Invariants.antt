use Rattle.std.proofs.Common.{◌≡◌, List}
use Rattle.pearl_value.specs.declared.kind.Kind.{Kind}
use Rattle.pearl_names.specs.Kinds.{kinds_among}
use Rattle.pearl_names.specs.Walks.{Lists}
use Rattle.pearl_scope.proofs.Filled.{Repeats}
use Rattle.pearl_scope.proofs.init.slots_of_names.Given as goal

abbrev pub invariant-loop-left : goal.invariant-loop-left
invariant-loop-left l = (slots : List Kind) → Lists l.one slots l.most → l.whole ≡ kinds_among slots → Repeats l.fn.names l.left l.runs.items l.behind slots l.most

abbrev pub decreases-loop-left : goal.decreases-loop-left
decreases-loop-left l = l.left
