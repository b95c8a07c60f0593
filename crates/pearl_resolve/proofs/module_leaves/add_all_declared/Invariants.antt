use Rattle.std.proofs.Common.{◌≡◌, ◌++◌, map, drop}
use Rattle.std.specs.List.{flat_map}
use Rattle.pearl_tree.specs.ShownDeclarations.{shown_declared}
use Rattle.pearl_program.specs.PlainPrograms.{plain_leaf}
use Rattle.pearl_resolve.specs.Expressions.{Numbered}
use Rattle.pearl_resolve.specs.Holding.{HoldsNumbered}
use Rattle.pearl_resolve.specs.Resolve.{declared_leaves}
use Rattle.pearl_resolve.proofs.module_leaves.add_all_declared.Given as goal

abbrev pub invariant-loop-one : goal.invariant-loop-one
invariant-loop-one l = (of : Numbered) → HoldsNumbered l.numbered of →
    map plain_leaf l.into.items ++ flat_map (declared_leaves of) (map shown_declared (drop l.one-index l.declared)) ≡ map plain_leaf l.fn.into.items ++ flat_map (declared_leaves of) (map shown_declared l.declared)
