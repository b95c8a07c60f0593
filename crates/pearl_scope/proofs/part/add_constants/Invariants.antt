use Rattle.std.proofs.Common.{◌≡◌, ◌++◌, take}
use Rattle.std.specs.List.{flat_map}
use Rattle.pearl_tree.specs.ShownLiterals.{shown_const}
use Rattle.pearl_scope.specs.Parts.{const_parts}
use Rattle.pearl_scope.specs.PartLists.{parts_in}
use Rattle.pearl_scope.proofs.part.add_constants.Given as goal

abbrev pub invariant-loop-constant : goal.invariant-loop-constant
invariant-loop-constant l = parts_in l.parts.items ≡ parts_in l.fn.parts.items ++ flat_map (λ constant. const_parts (shown_const constant)) (take l.constant-index l.constants)
