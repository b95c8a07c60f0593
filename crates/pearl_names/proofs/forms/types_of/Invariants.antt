use Rattle.std.proofs.Common.{take, map, []}
use Rattle.pearl_tree.specs.ShownModules.{shown_decl}
use Rattle.pearl_names.specs.Shapes.{shapes_after}
use Rattle.pearl_names.specs.Forming.{AllMatch}
use Rattle.pearl_names.proofs.forms.types_of.Given as goal

abbrev pub invariant-loop-decl : goal.invariant-loop-decl
invariant-loop-decl l =
    AllMatch l.types.forms.items l.types.named.items (shapes_after l.scopes l.lengths [] (map shown_decl (take l.decl-index l.decls)))
