use Rattle.std.proofs.Common.{◌++◌, map, sym, ap, ◌∙◌, append-nil}
use Rattle.std.specs.List.{flat_map}
use Rattle.pearl_tree.specs.ShownDeclarations.{shown_declared}
use Rattle.pearl_program.specs.PlainPrograms.{plain_leaf}
use Rattle.pearl_resolve.specs.Resolve.{declared_leaves}
use Rattle.pearl_resolve.proofs.module_leaves.add_decl_leaves.Goals as goal

pub returns-in_ok-add_all_declared-in-Declare : goal.returns-in_ok-add_all_declared-in-Declare
returns-in_ok-add_all_declared-in-Declare c = λ of holds. rw c.in-Declare.is
    (c.in_ok-add_all_declared-in-Declare.ensures of holds
    ∙ ap (λ l. map plain_leaf c.args.into.now.items ++ flat_map (declared_leaves of) (map shown_declared l)) c.as_slice.ensures)

pub returns-in-Length : goal.returns-in-Length
returns-in-Length c = λ of holds. rw c.in-Length.is (sym (append-nil _))

pub returns-in-Type : goal.returns-in-Type
returns-in-Type c = λ of holds. rw c.in-Type.is (sym (append-nil _))

pub returns-in-Specify : goal.returns-in-Specify
returns-in-Specify c = λ of holds. rw c.in-Specify.is (sym (append-nil _))

pub returns-in-Task : goal.returns-in-Task
returns-in-Task c = λ of holds. rw c.in-Task.is (sym (append-nil _))

pub returns-in-Proc : goal.returns-in-Proc
returns-in-Proc c = λ of holds. rw c.in-Proc.is (sym (append-nil _))
