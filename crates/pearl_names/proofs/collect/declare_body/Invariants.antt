use Rattle.std.proofs.Common.{◌≡◌, ◌++◌, take}
use Rattle.std.specs.List.{flat_map}
use Rattle.pearl_tree.specs.ShownStatements.{shown_body_decl}
use Rattle.pearl_names.specs.Groups.{entries_in}
use Rattle.pearl_names.specs.Scopes.{body_decl_entries}
use Rattle.pearl_names.proofs.collect.declare_body.Given as goal

abbrev pub invariant-loop-declaration : goal.invariant-loop-declaration
invariant-loop-declaration l =
    entries_in l.into.items ≡ entries_in l.fn.into.items ++ flat_map (λ declaration. body_decl_entries l.types (shown_body_decl declaration)) (take l.declaration-index l.declarations)
