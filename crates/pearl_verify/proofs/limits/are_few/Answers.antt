use Rattle.pearl_verify.proofs.Fitting.{too_many_at}
use Rattle.pearl_verify.proofs.limits.are_few.Goals as goal

pub returns-then-size-gt65536 : goal.returns-then-size-gt65536
returns-then-size-gt65536 c =
    too_many_at c.args.bounds.now c.loop-pair.pair-index c.loop-pair.size c.extent-size.result _ c.loop-pair-test.true c.loop-pair.invariant.0 c.extent-size.ensures.value
    c.if-size-gt65536.true
