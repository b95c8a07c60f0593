use Rattle.std.proofs.Common.{◌≡◌, ◌<◌, ◌-◌, ◌+◌, sym, subst, take, set, get_or, length, arith}
use Rattle.std.proofs.lemmas.List.{get_or_read}
use Rattle.pearl_calls.proofs.Closing.{Closed, is_inside, some_open, last_closed, one_closed}
use Rattle.pearl_calls.proofs.order.close_calls.Goals as goal
use Rattle.pearl_calls.proofs.order.close_calls.Goals.{then-left-eq0+in_ok-add, else-left-eq0}

pub index-requires : goal.index-requires
index-requires c =
    let inside : get_or c.args.calling.now c.loop-procedure.procedure-index 0 < length c.loop-procedure.open_calls.items =
    is_inside c.args.calling.now c.args.open_calls.now.items c.loop-procedure.open_calls.items c.args.ready.now c.loop-procedure.ready
    c.loop-procedure.procedure-index (omega arith) c.requires c.loop-procedure.invariant in
    omega (arith, inside, c.loop-procedure.open_calls.ok.0)

pub overflow_sub-left : goal.overflow_sub-left
overflow_sub-left c =
    let inside : get_or c.args.calling.now c.loop-procedure.procedure-index 0 < length c.loop-procedure.open_calls.items =
    is_inside c.args.calling.now c.args.open_calls.now.items c.loop-procedure.open_calls.items c.args.ready.now c.loop-procedure.ready
    c.loop-procedure.procedure-index (omega arith) c.requires c.loop-procedure.invariant in
    let some : 0 < get_or c.loop-procedure.open_calls.items (get_or c.args.calling.now c.loop-procedure.procedure-index 0) 0 =
    some_open c.args.calling.now c.args.open_calls.now.items c.loop-procedure.open_calls.items c.args.ready.now c.loop-procedure.ready
    c.loop-procedure.procedure-index (omega arith) c.requires c.loop-procedure.invariant in
    let is : c.index.result.now ≡ get_or c.loop-procedure.open_calls.items (get_or c.args.calling.now c.loop-procedure.procedure-index 0) 0 =
    get_or_read c.loop-procedure.open_calls.items (get_or c.args.calling.now c.loop-procedure.procedure-index 0) c.index.result.now inside c.index.ensures 0 in
    omega (arith, some, is)

pub index_mut-requires : goal.index_mut-requires
index_mut-requires c =
    let inside : get_or c.args.calling.now c.loop-procedure.procedure-index 0 < length c.loop-procedure.open_calls.items =
    is_inside c.args.calling.now c.args.open_calls.now.items c.loop-procedure.open_calls.items c.args.ready.now c.loop-procedure.ready
    c.loop-procedure.procedure-index (omega arith) c.requires c.loop-procedure.invariant in
    omega (arith, inside, c.loop-procedure.open_calls.ok.0)

pub loop-procedure-preserved : goal.loop-procedure-preserved
loop-procedure-preserved c =
    let inside : get_or c.args.calling.now c.loop-procedure.procedure-index 0 < length c.loop-procedure.open_calls.items =
    is_inside c.args.calling.now c.args.open_calls.now.items c.loop-procedure.open_calls.items c.args.ready.now c.loop-procedure.ready
    c.loop-procedure.procedure-index (omega arith) c.requires c.loop-procedure.invariant in
    let is : c.index.result.now ≡ get_or c.loop-procedure.open_calls.items (get_or c.args.calling.now c.loop-procedure.procedure-index 0) 0 =
    get_or_read c.loop-procedure.open_calls.items (get_or c.args.calling.now c.loop-procedure.procedure-index 0) c.index.result.now inside c.index.ensures 0 in
    subst (λ z. Closed (take (c.loop-procedure.procedure-index + 1) c.args.calling.now) c.args.open_calls.now.items
    (set c.loop-procedure.open_calls.items (get_or c.args.calling.now c.loop-procedure.procedure-index 0) (z - 1)) c.args.ready.now c.if-left-eq0.ready)
    (sym is)
    (elim c.if-left-eq0.branch [
      | then-left-eq0+in_ok-add w ↦ rw w.ready-is
          (last_closed c.args.calling.now c.args.open_calls.now.items c.loop-procedure.open_calls.items c.args.ready.now c.loop-procedure.ready
          c.loop-procedure.procedure-index (omega arith) c.requires c.loop-procedure.invariant w.add.new.self
          (omega (arith, is, w.if-left-eq0.true)) w.in_ok-add.ensures.ok)
      | else-left-eq0 w ↦ rw w.ready-is
          (one_closed c.args.calling.now c.args.open_calls.now.items c.loop-procedure.open_calls.items c.args.ready.now c.loop-procedure.ready
          c.loop-procedure.procedure-index (omega arith) c.requires c.loop-procedure.invariant
          (omega (arith, is, w.if-left-eq0.false)))
    ])
