use Rattle.std.proofs.Common.{◌∙◌, arith}
use Rattle.pearl_calls.proofs.Rows.{is_open, is_not_open}
use Rattle.pearl_calls.proofs.order.open_at_first.Goals as goal
use Rattle.pearl_calls.proofs.order.open_at_first.Goals.{then-callee-callers, else-callee-callers}

pub loop-callee-preserved : goal.loop-callee-preserved
loop-callee-preserved c = elim c.if-callee-callers.branch [
  | then-callee-callers w ↦ (
    w.count-is ∙ is_open c.args.callers.now c.args.calls.now c.loop-callee.callee-index c.loop-callee.count (omega arith) c.loop-callee.invariant.0 (omega arith),
    omega (arith, w.count-is, c.loop-callee.invariant.1),
  )
  | else-callee-callers w ↦ (
    w.count-is ∙ is_not_open c.args.callers.now c.args.calls.now c.loop-callee.callee-index c.loop-callee.count (omega arith) c.loop-callee.invariant.0 (omega arith),
    omega (arith, w.count-is, c.loop-callee.invariant.1),
  )
]
