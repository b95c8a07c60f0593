use Rattle.std.proofs.Common.{◌≡◌, ◌++◌, take}
use Rattle.std.specs.List.{flat_map}
use Rattle.pearl_tree.specs.ShownDeclarations.{shown_declared}
use Rattle.pearl_scope.specs.Parts.{declared_parts}
use Rattle.pearl_scope.specs.PartLists.{parts_in}
use Rattle.pearl_scope.proofs.part.add_all_declared.Given as goal

abbrev pub invariant-loop-part : goal.invariant-loop-part
invariant-loop-part l = parts_in l.parts.items ≡ parts_in l.fn.parts.items ++ flat_map (λ part. declared_parts l.types (shown_declared part)) (take l.part-index l.declared)
