use Rattle.std.proofs.Common.{◌≡◌, ◌++◌, map, take}
use Rattle.pearl_system.specs.Specified.{as_form}
use Rattle.pearl_system.proofs.specified.add_names.Given as goal

abbrev pub invariant-loop-name : goal.invariant-loop-name
invariant-loop-name l = l.into.items ≡ l.initial.into.items ++ map (as_form l.form) (take l.name-index l.names)
