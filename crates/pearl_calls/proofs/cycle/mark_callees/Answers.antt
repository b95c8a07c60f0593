use Rattle.std.proofs.Common.{◌<◌, ◌∙◌, sym, length, get_or, arith}
use Rattle.pearl_calls.proofs.Rows.{read_mark}
use Rattle.pearl_calls.proofs.Search.{marked_already, newly_marked}
use Rattle.pearl_calls.proofs.cycle.mark_callees.Goals as goal
use Rattle.pearl_calls.proofs.cycle.mark_callees.Goals.{then-number-len+then-not-index+in_ok-push, else-number-len, else-number-len-via-then-number-len+else-not-index, else-number-len-via-else-number-len}

pub loop-number-preserved : goal.loop-number-preserved
loop-number-preserved c = elim c.if-number-len.branch [
  | then-number-len+then-not-index+in_ok-push w ↦
      let within : get_or c.args.numbers.now c.loop-number.number-index 0 < length c.loop-number.marks.items = omega (arith, c.loop-number.marks.ok.0) in
      rw (w.marks-is, w.pending-is, w.in_ok-push.ensures.items)
      (newly_marked c.args.numbers.now c.loop-number.number-index (omega arith) c.args.marks.now.items c.loop-number.marks.items c.args.pending.now.items
      c.loop-number.pending.items c.loop-number.invariant within
      (sym (read_mark c.loop-number.marks.items (get_or c.args.numbers.now c.loop-number.number-index 0) w.index.result.now within w.index.ensures) ∙
      w.if-not-index.true))
  | else-number-len w ↦ elim w.else-number-len.branch [
    | else-number-len-via-then-number-len+else-not-index u ↦
        let within : get_or c.args.numbers.now c.loop-number.number-index 0 < length c.loop-number.marks.items = omega (arith, c.loop-number.marks.ok.0) in
        rw (w.marks-is, w.pending-is)
        (marked_already c.args.numbers.now c.loop-number.number-index (omega arith) c.args.marks.now.items c.loop-number.marks.items c.args.pending.now.items
        c.loop-number.pending.items c.loop-number.invariant
        (λ less. sym (read_mark c.loop-number.marks.items (get_or c.args.numbers.now c.loop-number.number-index 0) u.index.result.now within u.index.ensures) ∙
        u.if-not-index.false))
    | else-number-len-via-else-number-len u ↦
        rw (w.marks-is, w.pending-is)
        (marked_already c.args.numbers.now c.loop-number.number-index (omega arith) c.args.marks.now.items c.loop-number.marks.items c.args.pending.now.items
        c.loop-number.pending.items c.loop-number.invariant (λ less. absurd (omega (arith, less, c.loop-number.marks.ok.0))))
  ]
]
