use Rattle.std.proofs.Common.{List, map, filter, subst, sym, ◌∙◌}
use Rattle.pearl_tree.specs.declared.name.Name.{Name}
use Rattle.pearl_tree.specs.ShownModules.{shown_decl}
use Rattle.pearl_check.specs.Routines.{decls_routines, is_procedure, is_task}
use Rattle.pearl_check.specs.Sizes.{weighed_of}
use Rattle.pearl_check.specs.Weighing.{HoldsWeighed}
use Rattle.pearl_check.proofs.Weighing.{names_listed}
use Rattle.pearl_check.proofs.callers.routines_of.Goals as goal

pub returns-clause-procedures : goal.returns-clause-procedures
returns-clause-procedures c = λ t holds.
    let routines = decls_routines 1 (map shown_decl c.args.decls.now) in
    subst (λ (names : List Name). HoldsWeighed c.in_ok-routines.routines.procedures (map (weighed_of t names) (filter is_procedure routines)))
    (c.in_ok-procedures.ensures ∙ sym (names_listed 1 (map shown_decl c.args.decls.now)))
    (c.in_ok-routines.ensures.procedures t holds)

pub returns-clause-tasks : goal.returns-clause-tasks
returns-clause-tasks c = λ t holds.
    let routines = decls_routines 1 (map shown_decl c.args.decls.now) in
    subst (λ (names : List Name). HoldsWeighed c.in_ok-routines.routines.tasks (map (weighed_of t names) (filter is_task routines)))
    (c.in_ok-procedures.ensures ∙ sym (names_listed 1 (map shown_decl c.args.decls.now)))
    (c.in_ok-routines.ensures.tasks t holds)
