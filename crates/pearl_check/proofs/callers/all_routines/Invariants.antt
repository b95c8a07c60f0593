use Rattle.std.proofs.Common.{length}
use Rattle.pearl_check.specs.Routines.{is_procedure, is_task}
use Rattle.pearl_check.proofs.Weighing.{Collects}
use Rattle.pearl_check.proofs.callers.all_routines.Given as goal

abbrev pub invariant-loop-decls : goal.invariant-loop-decls
invariant-loop-decls l =
    Collects l.table l.procedures is_procedure l.initial.decls l.routines.procedures l.next l.decls ×
    Collects l.table l.procedures is_task l.initial.decls l.routines.tasks l.next l.decls

abbrev pub decreases-loop-decls : goal.decreases-loop-decls
decreases-loop-decls l = length l.decls
