use Rattle.std.proofs.Common.{◌≡◌, ◌++◌, take, map}
use Rattle.pearl_tree.specs.ShownModules.{shown_decl}
use Rattle.pearl_names.specs.Groups.{entries_in}
use Rattle.pearl_names.specs.Scopes.{decls_entries}
use Rattle.pearl_names.proofs.DeclLists.{types_in_all}
use Rattle.pearl_names.proofs.collect.declare_decls.Given as goal

abbrev pub invariant-loop-decl : goal.invariant-loop-decl
invariant-loop-decl l =
    (l.types ≡ types_in_all (map shown_decl (take l.decl-index l.decls))) ×
    (entries_in l.into.items ≡ entries_in l.fn.into.items ++ decls_entries 0 (map shown_decl (take l.decl-index l.decls)))
