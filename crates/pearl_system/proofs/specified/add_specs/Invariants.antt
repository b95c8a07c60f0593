use Rattle.std.proofs.Common.{◌≡◌, ◌++◌, map, take}
use Rattle.std.specs.List.{flat_map}
use Rattle.pearl_tree.specs.ShownDeclarations.{shown_spec}
use Rattle.pearl_system.specs.Specified.{specified_by}
use Rattle.pearl_system.proofs.specified.add_specs.Given as goal

abbrev pub invariant-loop-part : goal.invariant-loop-part
invariant-loop-part l = l.into.items ≡ l.initial.into.items ++ flat_map specified_by (map shown_spec (take l.part-index l.parts))
