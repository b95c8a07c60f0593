use Rattle.std.proofs.Common.{◌≡◌, ◌++◌, map, drop}
use Rattle.pearl_tree.specs.ShownLiterals.{shown_const}
use Rattle.pearl_program.specs.PlainPrograms.{plain_leaf}
use Rattle.pearl_resolve.specs.Expressions.{Numbered}
use Rattle.pearl_resolve.specs.Holding.{HoldsNumbered}
use Rattle.pearl_resolve.specs.Resolve.{names_leaves}
use Rattle.pearl_resolve.proofs.module_leaves.add_names_leaves.Given as goal

abbrev pub invariant-loop-name : goal.invariant-loop-name
invariant-loop-name l = (of : Numbered) → HoldsNumbered l.numbered of →
    map plain_leaf l.into.items ++ names_leaves of (map shown_const l.left) (drop l.name-index l.names) ≡
    map plain_leaf l.fn.into.items ++ names_leaves of (map shown_const l.constants) l.names
