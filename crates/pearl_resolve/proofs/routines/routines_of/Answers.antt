use Rattle.std.proofs.Common.{◌++◌, map, sym, ap, subst, ◌∙◌, append-nil}
use Rattle.std.proofs.lemmas.List.{drop_all}
use Rattle.pearl_tree.specs.ShownModules.{shown_decl}
use Rattle.pearl_program.specs.PlainPrograms.{plain_procedure, plain_task}
use Rattle.pearl_resolve.specs.Holding.{at_in}
use Rattle.pearl_resolve.specs.Numbers.{first}
use Rattle.pearl_resolve.specs.Resolve.{procedures_in, tasks_in}
use Rattle.pearl_resolve.proofs.PlainNodes.{one_left}
use Rattle.pearl_resolve.proofs.RoutineLists.{GoingRoutines, routines_more}
use Rattle.pearl_resolve.proofs.routines.routines_of.Goals as goal

pub loop-decl-init : goal.loop-decl-init
loop-decl-init c = λ of holds. record {
  tasks = ap (λ l. map plain_task l ++ tasks_in of first (map shown_decl c.args.decls.now)) c.new.ensures.items;
  procedures = ap (λ l. map plain_procedure l ++ procedures_in of first (map shown_decl c.args.decls.now)) c.new-2.ensures.items;
}

pub loop-decl-preserved : goal.loop-decl-preserved
loop-decl-preserved c = λ of holds.
    let xs = c.args.decls.now in
    let before = subst (λ l. GoingRoutines of (at_in c.loop-decl.here) first c.loop-decl.made (map shown_decl l) (map shown_decl xs))
    (one_left xs c.loop-decl.decl-index c.decl-item.result c.loop-decl-test.true c.decl-item.is) (c.loop-decl.invariant of holds) in
    routines_more of _ _ _ _ _ (shown_decl c.decl-item.result) _ _ before (c.in_ok-here.ensures of holds)

pub returns-clause-tasks : goal.returns-clause-tasks
returns-clause-tasks c = λ of holds.
    let xs = c.args.decls.now in
    let all = subst (λ l. GoingRoutines of (at_in c.loop-decl.here) first c.loop-decl.made (map shown_decl l) (map shown_decl xs))
    (drop_all c.loop-decl.decl-index xs c.loop-decl-test.false) (c.loop-decl.invariant of holds) in
    sym (append-nil _) ∙ all.tasks

pub returns-clause-procedures : goal.returns-clause-procedures
returns-clause-procedures c = λ of holds.
    let xs = c.args.decls.now in
    let all = subst (λ l. GoingRoutines of (at_in c.loop-decl.here) first c.loop-decl.made (map shown_decl l) (map shown_decl xs))
    (drop_all c.loop-decl.decl-index xs c.loop-decl-test.false) (c.loop-decl.invariant of holds) in
    sym (append-nil _) ∙ all.procedures
