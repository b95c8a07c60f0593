use Rattle.std.proofs.lemmas.Result.{err_from_is_err_and}
use Rattle.pearl_fields.proofs.Loop.{goes_on, ends, is_done}
use Rattle.pearl_fields.proofs.part.members.Goals as goal

pub returns-in_err-item : goal.returns-in_err-item
returns-in_err-item g c =
    let p = err_from_is_err_and c.from_residual.result c.from_residual.ensures.1 in
    rw (p.1, p.2) (ends g.T.Part.part g.T.Part.after c.loop.now c.in_err-item.field-0.0 c.loop.items.items c.args.count c.loop.counter c.loop.reader _ c.loop-test.true c.in_err-item.ensures c.loop.invariant)

pub loop-preserved : goal.loop-preserved
loop-preserved g c =
    rw (c.in_ok-push.ensures.items, c.next-now.ensures) (goes_on g.T.Part.part g.T.Part.after c.loop.now c.loop.items.items c.args.count c.loop.counter c.loop.reader c.in_ok-item.item c.read.new.reader _ c.loop-test.true c.in_ok-item.ensures c.loop.invariant)

pub returns : goal.returns
returns g c = is_done g.T.Part.part g.T.Part.after c.loop.now c.loop.items.items c.args.count c.loop.counter c.loop.reader _ c.loop-test.false c.loop.invariant
