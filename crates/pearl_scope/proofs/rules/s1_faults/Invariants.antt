use Rattle.std.proofs.Common.{◌≡◌, ◌++◌, take}
use Rattle.std.specs.List.{flat_map}
use Rattle.pearl_scope.specs.Rules.{s1}
use Rattle.pearl_scope.proofs.rules.s1_faults.Given as goal

abbrev pub invariant-loop-scope : goal.invariant-loop-scope
invariant-loop-scope l = l.faults.items ≡ l.fn.faults.items ++ flat_map s1 (take l.scope-index l.scopes)
