use Rattle.std.proofs.Common.{◌≡◌, take}
use Rattle.std.specs.List.{flat_map}
use Rattle.pearl_tree.specs.ShownModules.{shown_decl}
use Rattle.pearl_names.specs.Lengths.{length_set}
use Rattle.pearl_names.proofs.length.lengths_set.Given as goal

abbrev pub invariant-loop-decl : goal.invariant-loop-decl
invariant-loop-decl l =
    l.set.items ≡ flat_map (λ decl. length_set (shown_decl decl)) (take l.decl-index l.tree.declarations.items.items)
