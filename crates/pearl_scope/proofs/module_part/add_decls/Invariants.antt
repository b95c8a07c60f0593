use Rattle.std.proofs.Common.{◌≡◌, ◌++◌, map, length}
use Rattle.pearl_tree.specs.ShownModules.{shown_decl}
use Rattle.pearl_scope.specs.Parts.{decls_parts}
use Rattle.pearl_scope.specs.PartLists.{parts_in}
use Rattle.pearl_scope.proofs.module_part.add_decls.Given as goal

abbrev pub invariant-loop-decls : goal.invariant-loop-decls
invariant-loop-decls l =
    parts_in l.parts.items ++ decls_parts l.types l.next (map shown_decl l.decls) ≡
    parts_in l.fn.parts.items ++ decls_parts 0 1 (map shown_decl l.initial.decls)

abbrev pub decreases-loop-decls : goal.decreases-loop-decls
decreases-loop-decls l = length l.decls
