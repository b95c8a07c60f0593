use Rattle.pearl_gen_expr.proofs.Counting.{count_more}
use Rattle.pearl_gen_expr.proofs.bounds.element_count.Goals as goal

pub loop-bound-preserved : goal.loop-bound-preserved
loop-bound-preserved c =
    count_more c.args.bounds.now c.loop-bound.bound-index _ c.loop-bound.count c.extent.result c.in-Some.more c.loop-bound-test.true c.extent.ensures
    c.in-Some.ensures.1 c.loop-bound.invariant
