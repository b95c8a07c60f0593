use Rattle.std.proofs.Common.{◌≡◌, ◌++◌, take, map}
use Rattle.pearl_scope.specs.Parts.{Used}
use Rattle.pearl_scope.specs.PartLists.{parts_in}
use Rattle.pearl_scope.proofs.part.use_names.Given as goal

abbrev pub invariant-loop-name : goal.invariant-loop-name
invariant-loop-name l = parts_in l.parts.items ≡ parts_in l.fn.parts.items ++ map (Used l.view) (take l.name-index l.names)
