use Rattle.std.proofs.Common.{◌≡◌, ◌++◌, map, drop}
use Rattle.std.specs.List.{flat_map}
use Rattle.pearl_tree.specs.ShownModules.{shown_decl}
use Rattle.pearl_program.specs.PlainPrograms.{plain_leaf}
use Rattle.pearl_resolve.specs.Expressions.{Numbered}
use Rattle.pearl_resolve.specs.Holding.{HoldsNumbered}
use Rattle.pearl_resolve.specs.Resolve.{decl_leaves}
use Rattle.pearl_resolve.proofs.module_leaves.module_leaves.Given as goal

abbrev pub invariant-loop-decl : goal.invariant-loop-decl
invariant-loop-decl l = (of : Numbered) → HoldsNumbered l.numbered of →
    map plain_leaf l.leaves.items ++ flat_map (decl_leaves of) (map shown_decl (drop l.decl-index l.decls)) ≡ flat_map (decl_leaves of) (map shown_decl l.decls)
