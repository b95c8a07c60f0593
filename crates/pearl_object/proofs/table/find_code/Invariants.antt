use Rattle.std.proofs.Common.{◌≡◌, take, All}
use Rattle.pearl_object.proofs.table.find_code.Given as goal

abbrev pub invariant-loop-row : goal.invariant-loop-row
invariant-loop-row l = All (λ row. ¬ (row.opcode ≡ l.opcode)) (take l.row-index l.rows)
