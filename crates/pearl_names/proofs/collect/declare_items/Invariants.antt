use Rattle.std.proofs.Common.{◌≡◌, ◌++◌, take}
use Rattle.std.specs.List.{flat_map}
use Rattle.pearl_tree.specs.ShownDeclarations.{shown_item}
use Rattle.pearl_names.specs.Groups.{entries_in}
use Rattle.pearl_names.specs.Scopes.{item_entries}
use Rattle.pearl_names.proofs.collect.declare_items.Given as goal

abbrev pub invariant-loop-item : goal.invariant-loop-item
invariant-loop-item l =
    entries_in l.into.items ≡ entries_in l.fn.into.items ++ flat_map (λ item. item_entries l.types (shown_item item)) (take l.item-index l.items)
