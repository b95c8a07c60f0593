-- The tasks and procedures of a program come from those of the tree, one by one.
use Rattle.std.specs.Prelude.{◌≡◌, ◌+◌, List, [], ◌∷◌, ◌++◌, filter}
use Rattle.std.specs.List.{AllZip}
use Rattle.std.proofs.Common.{refl, sym, subst}
use Rattle.std.proofs.lemmas.List.Elements.{filter-append}
use Rattle.pearl_tree.specs.declared.tree.TaskHead.{TaskHead}
use Rattle.pearl_tree.specs.ShownModules.{ShownDecl, OfTask, OfProc}
use Rattle.pearl_names.specs.Scopes.{scopes_in_decl}
use Rattle.pearl_check.specs.Routines.{Routine, Task, is_procedure, is_task, decl_routines, decls_routines}
use Rattle.pearl_program.specs.PlainPrograms.{PlainRoutine, PlainProcedure, PlainTask}
use Rattle.pearl_resolve.specs.Numbers.{At, after_decl}
use Rattle.pearl_resolve.specs.Expressions.{Numbered}
use Rattle.pearl_resolve.specs.Resolve.{resolve_routine, priority_of, decl_tasks, tasks_in, decl_procedures, procedures_in}
use Rattle.pearl_sound_sizes.proofs.Basics.{alike_append}
use Rattle.pearl_sound.proofs.Offered.{decl_next}

pub record IsOf (numbered : Numbered) (plain : PlainRoutine) (routine : Routine) : Type 0 where
  pub at : At
  pub next : at.next ≡ routine.scope
  pub is : plain ≡ resolve_routine numbered at routine.body

abbrev pub IsProcedureOf : Numbered → PlainProcedure → Routine → Type 0
IsProcedureOf numbered procedure routine = IsOf numbered procedure.routine routine

pub record IsTaskOf (numbered : Numbered) (task : PlainTask) (routine : Routine) : Type 0 where
  pub head : TaskHead
  pub sort : routine.sort ≡ Task head
  pub priority : task.priority ≡ priority_of head
  pub own : IsOf numbered task.routine routine

module _ (numbered : Numbered) where
  procedure_alike : (at : At) (decl : ShownDecl) →
      AllZip (IsProcedureOf numbered) (decl_procedures numbered at decl) (filter is_procedure (decl_routines at.next decl))
  procedure_alike at (OfProc name params returns body place) = (record { at = at; next = refl; is = refl }, tt)
  procedure_alike at decl = tt

  pub procedures_alike : (at : At) (decls : List ShownDecl) →
      AllZip (IsProcedureOf numbered) (procedures_in numbered at decls) (filter is_procedure (decls_routines at.next decls))
  procedures_alike at [] = tt
  procedures_alike at (decl ∷ rest) =
      let past = after_decl numbered.table at decl in
      let own = decl_procedures numbered at decl in
      let more = procedures_in numbered past rest in
      let behind = subst (λ n. AllZip (IsProcedureOf numbered) more (filter is_procedure (decls_routines n rest)))
      (decl_next numbered at decl) (procedures_alike past rest) in
      subst (λ routines. AllZip (IsProcedureOf numbered) (own ++ more) routines)
      (sym (filter-append is_procedure (decl_routines at.next decl) (decls_routines (at.next + scopes_in_decl decl) rest)))
      (alike_append (IsProcedureOf numbered) own more (filter is_procedure (decl_routines at.next decl))
      (filter is_procedure (decls_routines (at.next + scopes_in_decl decl) rest)) (procedure_alike at decl) behind)

  task_alike : (at : At) (decl : ShownDecl) →
      AllZip (IsTaskOf numbered) (decl_tasks numbered at decl) (filter is_task (decl_routines at.next decl))
  task_alike at (OfTask name head body place) =
      (record { head = head; sort = refl; priority = refl; own = record { at = at; next = refl; is = refl } }, tt)
  task_alike at decl = tt

  pub tasks_alike : (at : At) (decls : List ShownDecl) →
      AllZip (IsTaskOf numbered) (tasks_in numbered at decls) (filter is_task (decls_routines at.next decls))
  tasks_alike at [] = tt
  tasks_alike at (decl ∷ rest) =
      let past = after_decl numbered.table at decl in
      let own = decl_tasks numbered at decl in
      let more = tasks_in numbered past rest in
      let behind = subst (λ n. AllZip (IsTaskOf numbered) more (filter is_task (decls_routines n rest)))
      (decl_next numbered at decl) (tasks_alike past rest) in
      subst (λ routines. AllZip (IsTaskOf numbered) (own ++ more) routines)
      (sym (filter-append is_task (decl_routines at.next decl) (decls_routines (at.next + scopes_in_decl decl) rest)))
      (alike_append (IsTaskOf numbered) own more (filter is_task (decl_routines at.next decl))
      (filter is_task (decls_routines (at.next + scopes_in_decl decl) rest)) (task_alike at decl) behind)
