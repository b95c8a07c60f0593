use Rattle.std.proofs.Common.{refl}
use Rattle.pearl_verify.proofs.Numbering.{number_more}
use Rattle.pearl_verify.proofs.tree.ShapeTree.add.Goals as goal

pub loop-kind-preserved : goal.loop-kind-preserved
loop-kind-preserved c = (
  number_more c.loop-kind.self.edges c.grow.new.self.edges c.args.kinds.now c.loop-kind.kind-index c.loop-kind.number c.in_ok-number.number _ _ c.loop-kind-test.true
      refl c.in_ok-number.ensures.grows c.loop-kind.invariant.0 c.in_ok-number.ensures.number,
  c.in_ok-number.ensures.tree,
  (λ e x h. c.in_ok-number.ensures.grows e x (c.loop-kind.invariant.2 e x h)),
  (c.in_ok-number.ensures.tree.some _ _ c.in_ok-number.ensures.number).1,
)
