use Rattle.std.proofs.Common.{◌≡◌, ◌++◌, take}
use Rattle.std.specs.List.{flat_map}
use Rattle.pearl_tree.specs.ShownStatements.{shown_body_decl}
use Rattle.pearl_scope.specs.Parts.{body_decl_parts}
use Rattle.pearl_scope.specs.PartLists.{parts_in}
use Rattle.pearl_scope.proofs.part.add_body_declarations.Given as goal

abbrev pub invariant-loop-declaration : goal.invariant-loop-declaration
invariant-loop-declaration l = parts_in l.parts.items ≡ parts_in l.fn.parts.items ++ flat_map (λ declaration. body_decl_parts l.scope l.types (shown_body_decl declaration)) (take l.declaration-index l.declarations)
