use Rattle.std.proofs.Common.{◌≡◌, ◌++◌, take}
use Rattle.std.specs.List.{flat_map}
use Rattle.pearl_tree.specs.ShownDeclarations.{shown_param}
use Rattle.pearl_scope.specs.Parts.{param_parts}
use Rattle.pearl_scope.specs.PartLists.{parts_in}
use Rattle.pearl_scope.proofs.part.add_params.Given as goal

abbrev pub invariant-loop-param : goal.invariant-loop-param
invariant-loop-param l = parts_in l.parts.items ≡ parts_in l.fn.parts.items ++ flat_map (λ param. param_parts (shown_param param)) (take l.param-index l.params)
