use Rattle.std.proofs.Common.{◌≡◌, take}
use Rattle.pearl_names.specs.Groups.{scopes_in_list}
use Rattle.pearl_names.specs.Sorts.{names_of_scopes}
use Rattle.pearl_names.proofs.sorted.names_of.Given as goal

abbrev pub invariant-loop-scope : goal.invariant-loop-scope
invariant-loop-scope l = l.names.items ≡ names_of_scopes (scopes_in_list (take l.scope-index l.scopes))
