use Rattle.std.proofs.Common.{◌≡◌, ◌++◌, take}
use Rattle.std.specs.List.{flat_map}
use Rattle.pearl_tree.specs.ShownDeclarations.{shown_declared}
use Rattle.pearl_names.specs.Groups.{entries_in}
use Rattle.pearl_names.specs.Scopes.{declared_entries}
use Rattle.pearl_names.proofs.collect.declare_parts.Given as goal

abbrev pub invariant-loop-part : goal.invariant-loop-part
invariant-loop-part l =
    entries_in l.into.items ≡ entries_in l.fn.into.items ++ flat_map (λ part. declared_entries l.types (shown_declared part)) (take l.part-index l.parts)
