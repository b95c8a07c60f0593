use Rattle.std.proofs.Common.{◌≡◌, map, take}
use Rattle.std.specs.List.{flat_map}
use Rattle.pearl_tree.specs.ShownDeclarations.{shown_param}
use Rattle.pearl_names.specs.Holding.{parameter_of}
use Rattle.pearl_names.specs.Tables as spec
use Rattle.pearl_names.proofs.senses.parameters_of.Given as goal

abbrev pub invariant-loop-param : goal.invariant-loop-param
invariant-loop-param l =
    map parameter_of l.parameters.items ≡ flat_map (λ param. spec.parameters_of l.lengths (shown_param param)) (take l.param-index l.params)
