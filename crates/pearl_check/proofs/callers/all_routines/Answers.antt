use Rattle.pearl_check.specs.Routines.{is_procedure, is_task}
use Rattle.pearl_check.proofs.Weighing.{collects_none, collects_next, collects_all}
use Rattle.pearl_check.proofs.callers.all_routines.Goals as goal

pub loop-decls-init : goal.loop-decls-init
loop-decls-init c = (
  collects_none c.args.table.now c.args.procedures.now is_procedure c.args.decls.now (record { places = c.new.result; callers = c.new-2.result })
      c.new.ensures.items c.new-2.ensures.items,
  collects_none c.args.table.now c.args.procedures.now is_task c.args.decls.now (record { places = c.new-3.result; callers = c.new-4.result })
      c.new-3.ensures.items c.new-4.ensures.items,
)

pub loop-decls-preserved : goal.loop-decls-preserved
loop-decls-preserved c = (
  collects_next c.args.table.now c.args.procedures.now is_procedure c.args.decls.now c.loop-decls.decls.now c.decl-item.result c.loop-decls.routines.procedures
      c.add_decl.new.routines.procedures c.loop-decls.next c.in_ok-next.next c.in-len1-up.len_at_least c.decl-item.is c.loop-decls.invariant.0 c.in_ok-next.ensures.next
      (λ table of holds before. c.in_ok-next.ensures.procedures table of holds before),
  collects_next c.args.table.now c.args.procedures.now is_task c.args.decls.now c.loop-decls.decls.now c.decl-item.result c.loop-decls.routines.tasks
      c.add_decl.new.routines.tasks c.loop-decls.next c.in_ok-next.next c.in-len1-up.len_at_least c.decl-item.is c.loop-decls.invariant.1 c.in_ok-next.ensures.next
      (λ table of holds before. c.in_ok-next.ensures.tasks table of holds before),
)

pub returns-clause-procedures : goal.returns-clause-procedures
returns-clause-procedures c =
    collects_all c.args.table.now c.args.procedures.now is_procedure c.args.decls.now c.loop-decls.decls.now c.loop-decls.routines.procedures c.loop-decls.next
    c.in_default.len_below c.loop-decls.invariant.0

pub returns-clause-tasks : goal.returns-clause-tasks
returns-clause-tasks c =
    collects_all c.args.table.now c.args.procedures.now is_task c.args.decls.now c.loop-decls.decls.now c.loop-decls.routines.tasks c.loop-decls.next
    c.in_default.len_below c.loop-decls.invariant.1
