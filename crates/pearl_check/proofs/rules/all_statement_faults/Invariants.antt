use Rattle.std.proofs.Common.{take}
use Rattle.pearl_scope.specs.Placed.{placed_in}
use Rattle.pearl_check.specs.Routines.{shown_sort}
use Rattle.pearl_check.specs.Rules.{statement_faults}
use Rattle.pearl_check.proofs.Adding.{Adds}
use Rattle.pearl_check.proofs.rules.all_statement_faults.Given as goal

abbrev pub invariant-loop-place : goal.invariant-loop-place
invariant-loop-place l = Adds l.table l.fn.faults.items l.faults.items (λ table. statement_faults table (shown_sort l.sort)) (placed_in (take l.place-index l.places))
