use Rattle.std.proofs.Common.{◌≡◌, ◌++◌, take}
use Rattle.std.specs.List.{flat_map}
use Rattle.pearl_tree.specs.ShownDeclarations.{shown_item}
use Rattle.pearl_scope.specs.Parts.{item_parts}
use Rattle.pearl_scope.specs.PartLists.{parts_in}
use Rattle.pearl_scope.proofs.part.add_items.Given as goal

abbrev pub invariant-loop-item : goal.invariant-loop-item
invariant-loop-item l = parts_in l.parts.items ≡ parts_in l.fn.parts.items ++ flat_map (λ item. item_parts l.scope l.types (shown_item item)) (take l.item-index l.items)
