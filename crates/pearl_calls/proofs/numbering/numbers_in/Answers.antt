use Rattle.std.proofs.Common.{◌<◌, get_or, arith}
use Rattle.pearl_calls.proofs.Rows.{one_placed, stands_at}
use Rattle.pearl_calls.proofs.numbering.numbers_in.Goals as goal

pub index_mut-requires : goal.index_mut-requires
index_mut-requires c =
    let within : get_or c.args.order.now c.loop-number.number 0 < c.args.count =
    c.requires.below (get_or c.args.order.now c.loop-number.number 0) (stands_at c.args.order.now c.loop-number.number (omega arith)) in
    omega (arith, within, c.loop-number.invariant.counted, c.loop-number.numbers.ok.0)

pub loop-number-preserved : goal.loop-number-preserved
loop-number-preserved c =
    one_placed c.args.order.now c.loop-number.numbers.items c.loop-number.number c.args.count c.loop-number.invariant (omega arith)
    (c.requires.below (get_or c.args.order.now c.loop-number.number 0) (stands_at c.args.order.now c.loop-number.number (omega arith)))
