use Rattle.std.proofs.Common.{◌≡◌, ◌+◌, map, drop}
use Rattle.std.specs.List.{sum_by}
use Rattle.pearl_tree.specs.ShownDeclarations.{shown_param}
use Rattle.pearl_resolve.specs.Resolve.{names_in_param}
use Rattle.pearl_resolve.proofs.routines.param_count.Given as goal

abbrev pub invariant-loop-param : goal.invariant-loop-param
invariant-loop-param l =
    l.count + sum_by names_in_param (map shown_param (drop l.param-index l.params)) ≡ sum_by names_in_param (map shown_param l.params)
