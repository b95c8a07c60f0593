use Rattle.std.proofs.Common.{◌≡◌, ◌++◌, map, length}
use Rattle.pearl_tree.specs.ShownLiterals.{shown_const}
use Rattle.pearl_scope.specs.Constants.{wrong_signs}
use Rattle.pearl_scope.proofs.init.wrong_signs.Given as goal

abbrev pub invariant-loop-init : goal.invariant-loop-init
invariant-loop-init l = l.faults.items ++ wrong_signs (map shown_const l.init) ≡ l.fn.faults.items ++ wrong_signs (map shown_const l.initial.init)

abbrev pub decreases-loop-init : goal.decreases-loop-init
decreases-loop-init l = length l.init
