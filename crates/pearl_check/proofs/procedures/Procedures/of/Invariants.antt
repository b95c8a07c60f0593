use Rattle.std.proofs.Common.{◌≡◌, take}
use Rattle.std.specs.List.{flat_map}
use Rattle.pearl_tree.specs.ShownModules.{shown_decl}
use Rattle.pearl_check.specs.Calling.{names_in, procedures_in}
use Rattle.pearl_check.proofs.procedures.Procedures.of.Given as goal

abbrev pub invariant-loop-decl : goal.invariant-loop-decl
invariant-loop-decl l = names_in l.names.items ≡ flat_map (λ decl. procedures_in (shown_decl decl)) (take l.decl-index l.decls)
