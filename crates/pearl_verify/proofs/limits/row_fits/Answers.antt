use Rattle.std.proofs.Common.{length, ap, arith}
use Rattle.pearl_verify.proofs.Fitting.{at_end}
use Rattle.pearl_verify.proofs.limits.row_fits.Goals as goal

pub returns : goal.returns
returns c =
    let long = ap length c.as_slice-item-items.ensures in
    at_end c.args.row.now c.args.kinds.now c.loop-item.item-index c.loop-item.at c.loop-item.width c.loop-item.invariant (omega (arith, long, c.loop-item-test.false))
