use Rattle.std.proofs.Common.{◌≡◌, ◌++◌, take}
use Rattle.std.specs.List.{flat_map}
use Rattle.pearl_tree.specs.ShownDeclarations.{shown_param}
use Rattle.pearl_names.specs.Groups.{entries_in}
use Rattle.pearl_names.specs.Scopes.{param_entries}
use Rattle.pearl_names.proofs.collect.declare_params.Given as goal

abbrev pub invariant-loop-param : goal.invariant-loop-param
invariant-loop-param l =
    entries_in l.into.items ≡ entries_in l.fn.into.items ++ flat_map (λ param. param_entries (shown_param param)) (take l.param-index l.params)
