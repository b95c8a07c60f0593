use Rattle.std.proofs.Common.{length}
use Rattle.pearl_names.specs.declared.scope.View.TheVariants.{Within}
use Rattle.pearl_names.specs.Holding.{HoldsTable}
use Rattle.pearl_names.specs.Tables.{Table}
use Rattle.pearl_check.specs.Views.{seen, is_semaphore}
use Rattle.pearl_check.proofs.SeenSemaphores.{ToldSo}
use Rattle.pearl_check.proofs.semaphores.tell_repeats.Given as goal

abbrev pub invariant-loop-names : goal.invariant-loop-names
invariant-loop-names l =
    (table : Table) → HoldsTable l.table table →
    ToldSo (λ name. is_semaphore (seen table (Within l.scope) name)) l.seen.entries l.fn.faults.items l.faults.items l.initial.names l.names

abbrev pub decreases-loop-names : goal.decreases-loop-names
decreases-loop-names l = length l.names
