use Rattle.std.proofs.Common.{◌≡◌, ◌++◌, take}
use Rattle.std.specs.List.{flat_map}
use Rattle.pearl_tree.specs.ShownExpressions.{shown_ref}
use Rattle.pearl_scope.specs.Parts.{ref_parts}
use Rattle.pearl_scope.specs.PartLists.{parts_in}
use Rattle.pearl_scope.proofs.part.add_refs.Given as goal

abbrev pub invariant-loop-reference : goal.invariant-loop-reference
invariant-loop-reference l = parts_in l.parts.items ≡ parts_in l.fn.parts.items ++ flat_map (λ reference. ref_parts l.view (shown_ref reference)) (take l.reference-index l.references)
