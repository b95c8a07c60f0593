use Rattle.std.proofs.Common.{◌≡◌, ◌≤◌, ◌-◌, take, drop}
use Rattle.std.specs.List.{sum_by}
use Rattle.pearl_names.specs.Counts.{cut}
use Rattle.pearl_names.specs.Holding.{HoldsTable}
use Rattle.pearl_names.specs.Tables.{Table}
use Rattle.pearl_check.specs.Sizes.{cells}
use Rattle.pearl_check.proofs.callers.cells_in_scopes.Given as goal

abbrev pub invariant-loop-scope : goal.invariant-loop-scope
invariant-loop-scope l =
    (l.first ≤ l.scope) × (l.first ≤ l.past → l.scope ≤ l.past) ×
    ((table : Table) → HoldsTable l.table table → l.sum ≡ cut (sum_by (sum_by cells) (take (l.scope - l.first) (drop l.first table.senses))))

abbrev pub decreases-loop-scope : goal.decreases-loop-scope
decreases-loop-scope l = l.past - l.scope
