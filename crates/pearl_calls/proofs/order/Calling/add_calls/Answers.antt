use Rattle.std.proofs.Common.{◌+◌, ◌∙◌, sym, subst, take, arith}
use Rattle.pearl_calls.proofs.Closing.{Added, one_added, not_added}
use Rattle.pearl_calls.proofs.order.Calling.add_calls.Goals as goal
use Rattle.pearl_calls.proofs.order.Calling.add_calls.Goals.{then-callee-len+in_ok-add, else-callee-len}

pub loop-callee-preserved : goal.loop-callee-preserved
loop-callee-preserved c = elim c.if-callee-len.branch [
  | then-callee-len+in_ok-add w ↦
      subst (λ z. Added c.args.caller (take (c.loop-callee.callee-index + 1) c.args.calls.now) c.args.self.now z) (sym (w.self-is ∙ w.in_ok-add.ensures.ok))
      (one_added c.args.caller c.args.calls.now c.loop-callee.callee-index c.args.self.now c.loop-callee.self (omega arith) c.loop-callee.invariant (omega arith))
  | else-callee-len w ↦
      subst (λ z. Added c.args.caller (take (c.loop-callee.callee-index + 1) c.args.calls.now) c.args.self.now z) (sym w.self-is)
      (not_added c.args.caller c.args.calls.now c.loop-callee.callee-index c.args.self.now c.loop-callee.self (omega arith) c.loop-callee.invariant (omega arith))
]
