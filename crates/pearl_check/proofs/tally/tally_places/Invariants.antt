use Rattle.std.proofs.Common.{◌≡◌, take}
use Rattle.std.specs.List.{flat_map}
use Rattle.pearl_names.specs.Counts.{cut}
use Rattle.pearl_names.specs.Holding.{HoldsTable}
use Rattle.pearl_names.specs.Tables.{Table}
use Rattle.pearl_scope.specs.Placed.{placed_in}
use Rattle.pearl_check.specs.Calling.{calls_of_place}
use Rattle.pearl_check.specs.Sizes.{greatest_need, all_hidden}
use Rattle.pearl_check.proofs.tally.tally_places.Given as goal

abbrev pub invariant-loop-place : goal.invariant-loop-place
invariant-loop-place l =
    (l.tally.need ≡ cut (greatest_need (placed_in (take l.place-index l.places)))) ×
    (l.tally.hidden ≡ cut (all_hidden (placed_in (take l.place-index l.places)))) ×
    ((table : Table) → HoldsTable l.table table → l.tally.calls.items ≡ flat_map (calls_of_place table l.procedures) (placed_in (take l.place-index l.places)))
