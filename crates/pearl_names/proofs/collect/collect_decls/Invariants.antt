use Rattle.std.proofs.Common.{◌≡◌, ◌++◌, take, map, length}
use Rattle.pearl_tree.specs.ShownModules.{shown_decl}
use Rattle.pearl_names.specs.Groups.{scopes_in_list}
use Rattle.pearl_names.specs.Scopes.{decls_scopes}
use Rattle.pearl_names.proofs.DeclLists.{types_in_all}
use Rattle.pearl_names.proofs.collect.collect_decls.Given as goal

abbrev pub invariant-loop-decl : goal.invariant-loop-decl
invariant-loop-decl l =
    (l.types ≡ types_in_all (map shown_decl (take l.decl-index l.decls))) ×
    (scopes_in_list l.scopes.items ≡
    scopes_in_list l.fn.scopes.items ++
    decls_scopes 0 (length (scopes_in_list l.fn.scopes.items)) (map shown_decl (take l.decl-index l.decls)))
