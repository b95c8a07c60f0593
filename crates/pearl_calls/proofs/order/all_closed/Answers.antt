use Rattle.std.proofs.Common.{◌≡◌, ◌<◌, ◌∙◌, sym, get_or, length, arith}
use Rattle.std.proofs.lemmas.List.{get_or_read}
use Rattle.pearl_calls.proofs.Rows.{one_ready, none_ready}
use Rattle.pearl_calls.proofs.order.all_closed.Goals as goal
use Rattle.pearl_calls.proofs.order.all_closed.Goals.{then-index-eq0+in_ok-add, else-index-eq0}

pub loop-procedure-preserved : goal.loop-procedure-preserved
loop-procedure-preserved c =
    let inside : c.loop-procedure.procedure < length c.args.open_calls.now.items = omega (arith, c.args.open_calls.now.ok.0) in
    let is : c.index.result.now ≡ get_or c.args.open_calls.now.items c.loop-procedure.procedure 0 =
    get_or_read c.args.open_calls.now.items c.loop-procedure.procedure c.index.result.now inside c.index.ensures 0 in
    elim c.if-index-eq0.branch [
      | then-index-eq0+in_ok-add w ↦ rw w.ready-is
          (one_ready c.args.open_calls.now.items c.loop-procedure.ready w.add.new.self c.loop-procedure.procedure c.loop-procedure.invariant
          (sym is ∙ w.if-index-eq0.true) w.in_ok-add.ensures.ok)
      | else-index-eq0 w ↦ rw w.ready-is
          (none_ready c.args.open_calls.now.items c.loop-procedure.ready c.loop-procedure.procedure c.loop-procedure.invariant
          (omega (arith, is, w.if-index-eq0.false)))
    ]
