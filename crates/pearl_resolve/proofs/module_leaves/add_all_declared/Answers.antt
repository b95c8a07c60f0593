use Rattle.std.proofs.Common.{refl}
use Rattle.pearl_tree.specs.ShownDeclarations.{shown_declared}
use Rattle.pearl_resolve.specs.Resolve.{declared_leaves}
use Rattle.pearl_resolve.proofs.ModuleLeaves.{flat_more, flat_all}
use Rattle.pearl_resolve.proofs.module_leaves.add_all_declared.Goals as goal

pub loop-one-init : goal.loop-one-init
loop-one-init c = λ of holds. refl

pub loop-one-preserved : goal.loop-one-preserved
loop-one-preserved c = λ of holds.
    flat_more shown_declared (declared_leaves of) c.args.declared.now c.loop-one.one-index c.one-item.result _ _ _ c.loop-one-test.true c.one-item.is
    (c.in_ok-add_declared_leaves.ensures of holds) (c.loop-one.invariant of holds)

pub returns : goal.returns
returns c = λ of holds. flat_all shown_declared (declared_leaves of) c.args.declared.now c.loop-one.one-index _ _ c.loop-one-test.false (c.loop-one.invariant of holds)
