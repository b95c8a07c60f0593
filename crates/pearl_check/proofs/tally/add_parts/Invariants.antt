use Rattle.std.proofs.Common.{◌≡◌, ◌++◌, take, length}
use Rattle.std.specs.List.{flat_map}
use Rattle.pearl_names.specs.Counts.{cut}
use Rattle.pearl_names.specs.Holding.{HoldsTable}
use Rattle.pearl_names.specs.Tables.{Table}
use Rattle.pearl_check.specs.Asked.{asked_in}
use Rattle.pearl_check.specs.Calling.{calls_of_part}
use Rattle.pearl_check.specs.Calls.{asked_pieces}
use Rattle.pearl_check.proofs.tally.add_parts.Given as goal

abbrev pub invariant-loop-part : goal.invariant-loop-part
invariant-loop-part l =
    (l.pieces ≡ cut (length (flat_map asked_pieces (asked_in (take l.part-index l.asked))))) ×
    ((table : Table) → HoldsTable l.table table →
    l.calls.items ≡ l.fn.calls.items ++ flat_map (calls_of_part table l.procedures) (asked_in (take l.part-index l.asked)))
