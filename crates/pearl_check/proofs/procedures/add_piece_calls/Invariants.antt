use Rattle.std.proofs.Common.{◌≡◌, ◌++◌, take}
use Rattle.std.specs.List.{flat_map}
use Rattle.pearl_names.specs.Holding.{HoldsTable}
use Rattle.pearl_names.specs.Tables.{Table}
use Rattle.pearl_check.specs.Calls.{referred}
use Rattle.pearl_check.specs.Calling.{calls_seen}
use Rattle.pearl_check.specs.PieceLists.{pieces_in}
use Rattle.pearl_check.proofs.procedures.add_piece_calls.Given as goal

abbrev pub invariant-loop-piece : goal.invariant-loop-piece
invariant-loop-piece l =
    (table : Table) → HoldsTable l.sight.table.now table →
    l.calls.items ≡
    l.fn.calls.items ++ calls_seen table l.sight.procedures.now l.sight.view (flat_map referred (pieces_in (take l.piece-index l.pieces)))
