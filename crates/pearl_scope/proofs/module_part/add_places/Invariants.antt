use Rattle.std.proofs.Common.{◌≡◌, ◌++◌, take}
use Rattle.std.specs.List.{flat_map}
use Rattle.pearl_scope.specs.PartLists.{parts_in}
use Rattle.pearl_scope.specs.Placed.{placed_in, parts_at}
use Rattle.pearl_scope.proofs.module_part.add_places.Given as goal

abbrev pub invariant-loop-place : goal.invariant-loop-place
invariant-loop-place l = parts_in l.parts.items ≡ parts_in l.fn.parts.items ++ flat_map (parts_at l.types) (placed_in (take l.place-index l.places))
