use Rattle.std.specs.List.{AllByRecursion}
use Rattle.std.specs.Prelude.{drop}
use Rattle.pearl_value.specs.WellFormed.{IsValue, IsValueOf}
use Rattle.pearl_snap.proofs.Alls.{Left}
use Rattle.pearl_snap.proofs.core_rules.are_values_of.Given as goal

abbrev pub invariant-loop-cell : goal.invariant-loop-cell
invariant-loop-cell l = record { are : AllByRecursion IsValue (drop l.cell-index l.cells); left : Left (IsValueOf l.kind) l.cells l.cell-index }
