use Rattle.std.proofs.Common.{◌≡◌, take, map}
use Rattle.std.specs.List.{AllByRecursion}
use Rattle.pearl_records.specs.States.{EndSooner}
use Rattle.pearl_records.specs.Records.{row_record}
use Rattle.pearl_records.proofs.rows.rows_recorded.Given as goal

abbrev pub invariant-loop-row : goal.invariant-loop-row
invariant-loop-row l = record {
  records : l.tasks.items ≡ map row_record (take l.row-index l.rows);
  ends : AllByRecursion EndSooner l.tasks.items;
}
