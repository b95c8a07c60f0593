use Rattle.std.proofs.Common.{List, map, sym, ap, refl, ◌∙◌, append-nil}
use Rattle.std.specs.List.{sum_by}
use Rattle.pearl_tree.specs.declared.declaration.Param.{Param}
use Rattle.pearl_tree.specs.ShownDeclarations.{shown_param}
use Rattle.pearl_program.specs.PlainPrograms.{plain_procedure, plain_task}
use Rattle.pearl_resolve.specs.Resolve.{names_in_param, result_kind}
use Rattle.pearl_resolve.proofs.RoutineLists.{procedure_with, shown_push, task_with}
use Rattle.pearl_resolve.proofs.routines.add_decl.Goals as goal

pub returns-in_ok-push-in-Task : goal.returns-in_ok-push-in-Task
returns-in_ok-push-in-Task c = λ of holds. rw c.in-Task.is (record {
  goes = c.in_ok-at-in-Task.ensures.at of holds;
  adds_tasks = shown_push plain_task c.args.into.now.tasks.items _ c.in_ok-task-in-Task.task _ c.in_ok-push-in-Task.ensures.items
      (c.in_ok-task-in-Task.ensures ∙ task_with _ _ _ _ _ (c.in_ok-at-in-Task.ensures.routine of holds));
  adds_procedures = sym (append-nil _);
})

pub returns-in_ok-push-in-Proc : goal.returns-in_ok-push-in-Proc
returns-in_ok-push-in-Proc c = λ of holds. rw c.in-Proc.is (record {
  goes = c.in_ok-at-in-Proc.ensures.at of holds;
  adds_tasks = sym (append-nil _);
  adds_procedures = shown_push plain_procedure c.args.into.now.procedures.items _ c.in_ok-procedure-in-Proc.procedure _ c.in_ok-push-in-Proc.ensures.items
      (c.in_ok-procedure-in-Proc.ensures
      ∙ procedure_with _ _ _ _ _ _ (ap (λ (l : List Param). sum_by names_in_param (map shown_param l)) c.as_slice.ensures)
      (ap (λ l. result_kind l c.in-Proc.returns) (c.lengths-lengths.ensures ∙ holds.table.lengths)) (c.in_ok-at-in-Proc.ensures.routine of holds));
})

pub returns-in-Length : goal.returns-in-Length
returns-in-Length c = λ of holds. rw c.in-Length.is (record { goes = refl; adds_tasks = sym (append-nil _); adds_procedures = sym (append-nil _) })

pub returns-in-Type : goal.returns-in-Type
returns-in-Type c = λ of holds. rw c.in-Type.is (record { goes = refl; adds_tasks = sym (append-nil _); adds_procedures = sym (append-nil _) })

pub returns-in-Declare : goal.returns-in-Declare
returns-in-Declare c = λ of holds. rw c.in-Declare.is (record { goes = refl; adds_tasks = sym (append-nil _); adds_procedures = sym (append-nil _) })

pub returns-in-Specify : goal.returns-in-Specify
returns-in-Specify c = λ of holds. rw c.in-Specify.is (record { goes = refl; adds_tasks = sym (append-nil _); adds_procedures = sym (append-nil _) })
