use Rattle.std.proofs.Common.{◌≡◌, ◌++◌, take}
use Rattle.std.specs.List.{flat_map}
use Rattle.pearl_tree.specs.ShownDeclarations.{shown_spec}
use Rattle.pearl_scope.specs.Parts.{spec_parts}
use Rattle.pearl_scope.specs.PartLists.{parts_in}
use Rattle.pearl_scope.proofs.part.add_specs.Given as goal

abbrev pub invariant-loop-part : goal.invariant-loop-part
invariant-loop-part l = parts_in l.parts.items ≡ parts_in l.fn.parts.items ++ flat_map (λ part. spec_parts (shown_spec part)) (take l.part-index l.specs)
