use Rattle.std.proofs.Common.{◌≡◌, ◌++◌, length}
use Rattle.pearl_tree.specs.declared.rule.TheConstants as rule
use Rattle.pearl_scope.specs.Rules.{fault_at_names}
use Rattle.pearl_scope.proofs.rules.s5_of_names.Given as goal

abbrev pub invariant-loop-names : goal.invariant-loop-names
invariant-loop-names l = l.faults.items ++ fault_at_names l.broken l.names rule.S5 ≡ l.fn.faults.items ++ fault_at_names l.broken l.initial.names rule.S5

abbrev pub decreases-loop-names : goal.decreases-loop-names
decreases-loop-names l = length l.names
