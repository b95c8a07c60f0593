use Rattle.std.proofs.Common.{◌≡◌, ◌++◌, ◌∷◌, [], List, map, filter, refl, ap, sym, subst}
use Rattle.pearl_tree.specs.ShownModules.{shown_body, shown_decl}
use Rattle.pearl_check.specs.Calls.{Weighed}
use Rattle.pearl_check.specs.Routines.{Routine, Task, Procedure, decl_routines, is_procedure, is_task}
use Rattle.pearl_check.specs.Sizes.{weighed_of}
use Rattle.pearl_check.specs.Weighing.{HoldsWeighed}
use Rattle.pearl_check.proofs.callers.add_decl.Goals as goal

pub returns-in_ok-push-in-Task-clause-tasks : goal.returns-in_ok-push-in-Task-clause-tasks
returns-in_ok-push-in-Task-clause-tasks c = λ t of holds before.
    let procedures = c.args.procedures.now in
    let routine : Routine = record { name = c.in-Task.name; sort = Task c.in-Task.head; scope = c.args.next; body = shown_body c.in-Task.body } in
    let whole : map (weighed_of t procedures) (filter is_task (decl_routines c.args.next (shown_decl c.args.decl.now))) ≡ weighed_of t procedures routine ∷ [] =
    ap (λ d. map (weighed_of t procedures) (filter is_task (decl_routines c.args.next (shown_decl d)))) c.in-Task.is in
    subst (λ (l : List Weighed). HoldsWeighed c.push.new.self (of ++ l)) (sym whole)
    (c.in_ok-push-in-Task.ensures of (weighed_of t procedures routine) before refl (c.in_ok-caller-in-Task.ensures.caller t c.in-Task.name (Task c.in-Task.head) holds))

pub returns-in_ok-push-in-Proc-clause-procedures : goal.returns-in_ok-push-in-Proc-clause-procedures
returns-in_ok-push-in-Proc-clause-procedures c = λ t of holds before.
    let procedures = c.args.procedures.now in
    let routine : Routine = record { name = c.in-Proc.name; sort = Procedure c.in-Proc.returns; scope = c.args.next; body = shown_body c.in-Proc.body } in
    let whole : map (weighed_of t procedures) (filter is_procedure (decl_routines c.args.next (shown_decl c.args.decl.now))) ≡ weighed_of t procedures routine ∷ [] =
    ap (λ d. map (weighed_of t procedures) (filter is_procedure (decl_routines c.args.next (shown_decl d)))) c.in-Proc.is in
    subst (λ (l : List Weighed). HoldsWeighed c.push-in-Proc.new.self (of ++ l)) (sym whole)
    (c.in_ok-push-in-Proc.ensures of (weighed_of t procedures routine) before refl (c.in_ok-caller-in-Proc.ensures.caller t c.in-Proc.name (Procedure c.in-Proc.returns) holds))
