use Rattle.std.proofs.Common.{◌≡◌, ◌++◌, map, take}
use Rattle.pearl_names.specs.Holding.{parameter_of}
use Rattle.pearl_names.proofs.senses.add_parameters.Given as goal

abbrev pub invariant-loop-name : goal.invariant-loop-name
invariant-loop-name l =
    map parameter_of l.into.items ≡ map parameter_of l.fn.into.items ++ map (λ name. parameter_of l.parameter) (take l._name-index l.names)
