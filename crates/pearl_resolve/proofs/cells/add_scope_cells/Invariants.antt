use Rattle.std.proofs.Common.{◌++◌, drop}
use Rattle.std.specs.List.{sum_by}
use Rattle.pearl_names.specs.Holding.{HoldsTable}
use Rattle.pearl_names.specs.Tables.{Table}
use Rattle.pearl_resolve.specs.Cells.{scope_cells}
use Rattle.pearl_resolve.specs.Laying.{cells_of_sense}
use Rattle.pearl_resolve.specs.Numbers.{senses_at}
use Rattle.pearl_resolve.proofs.ScopeCells.{CellsSo}
use Rattle.pearl_resolve.proofs.cells.add_scope_cells.Given as goal

abbrev pub invariant-loop-sense : goal.invariant-loop-sense
invariant-loop-sense l = (t : Table) → HoldsTable l.table t →
    CellsSo l.into.items (l.fn.into.items ++ scope_cells t l.scope) l.count (sum_by cells_of_sense (senses_at t l.scope))
    (drop l.sense-index (senses_at t l.scope))
