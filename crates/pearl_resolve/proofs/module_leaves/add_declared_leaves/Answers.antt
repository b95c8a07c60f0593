use Rattle.std.proofs.Common.{◌++◌, map, sym, ◌∙◌, append-nil}
use Rattle.pearl_tree.specs.ShownLiterals.{shown_const}
use Rattle.pearl_program.specs.PlainPrograms.{plain_leaf}
use Rattle.pearl_resolve.specs.Resolve.{names_leaves}
use Rattle.pearl_resolve.proofs.module_leaves.add_declared_leaves.Goals as goal

pub returns-in_ok-add_names_leaves-in-Item : goal.returns-in_ok-add_names_leaves-in-Item
returns-in_ok-add_names_leaves-in-Item c = λ of holds. rw c.in-Item.is
    (c.in_ok-add_names_leaves-in-Item.ensures of holds
    ∙ (λ i. map plain_leaf c.args.into.now.items ++ names_leaves of (map shown_const (c.as_slice-constants.ensures i)) (c.as_slice.ensures i)))

pub returns-in-Sema : goal.returns-in-Sema
returns-in-Sema c = λ of holds. rw c.in-Sema.is (sym (append-nil _))
