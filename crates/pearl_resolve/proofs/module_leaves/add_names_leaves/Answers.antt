use Rattle.std.proofs.Common.{◌++◌, map, sym, ap, refl, ◌∙◌, append-nil}
use Rattle.std.proofs.lemmas.List.{drop_all}
use Rattle.pearl_tree.specs.ShownLiterals.{shown_const}
use Rattle.pearl_program.specs.PlainPrograms.{plain_leaf}
use Rattle.pearl_resolve.specs.Resolve.{names_leaves}
use Rattle.pearl_resolve.proofs.ModuleLeaves.{name_leaves_more}
use Rattle.pearl_resolve.proofs.module_leaves.add_names_leaves.Goals as goal

pub loop-name-init : goal.loop-name-init
loop-name-init c = λ of holds. refl

pub loop-name-preserved : goal.loop-name-preserved
loop-name-preserved c = λ of holds.
    name_leaves_more of c.args.names.now c.loop-name.name-index c.name-item.result (map shown_const c.loop-name.left.now) _ _ _ _ _
    c.loop-name-test.true c.name-item.is (c.in_ok-count.ensures.leaves of holds) (c.in_ok-count.ensures.slots of holds)
    c.left_behind-left.ensures (c.loop-name.invariant of holds)

pub returns : goal.returns
returns c = λ of holds.
    sym (append-nil _)
    ∙ ap (λ l. map plain_leaf c.loop-name.into.items ++ names_leaves of (map shown_const c.loop-name.left.now) l)
    (sym (drop_all c.loop-name.name-index c.args.names.now c.loop-name-test.false))
    ∙ c.loop-name.invariant of holds
