use Rattle.std.proofs.Common.{◌≡◌, map, take}
use Rattle.std.specs.List.{flat_map}
use Rattle.pearl_tree.specs.ShownModules.{shown_decl}
use Rattle.pearl_system.specs.Specified.{specified_in}
use Rattle.pearl_system.proofs.specified.specified_names.Given as goal

abbrev pub invariant-loop-decl : goal.invariant-loop-decl
invariant-loop-decl l = l.names.items ≡ flat_map specified_in (map shown_decl (take l.decl-index l.decls))
