use Rattle.std.proofs.Common.{◌<◌, ◌∙◌, max, length, get_or, refl, sym, ap, arith}
use Rattle.std.proofs.lemmas.Bool.{ltb-true}
use Rattle.std.proofs.lemmas.Option.{slice_get_read}
use Rattle.pearl_calls.proofs.Weighing.{most_some, most_none, past}
use Rattle.pearl_calls.proofs.weight.add_up.Goals as goal
use Rattle.pearl_calls.proofs.weight.add_up.Goals.{in-Some, in_default}

pub loop-callee-preserved : goal.loop-callee-preserved
loop-callee-preserved c = elim c.match-get.branch [
  | in-Some w ↦
      let less : get_or c.calls-callee-items.result.now c.loop-callee.callee-index 0 < length c.args.weights.now =
      ltb-true (get_or c.calls-callee-items.result.now c.loop-callee.callee-index 0) (length c.args.weights.now) (sym w.in-Some.ensures.lookup.0) in
      w.most-is ∙ w.max-most.ensures ∙ ap (λ n. max n w.in-Some.weight.now) c.loop-callee.invariant ∙
      sym (most_some c.args.weights.now c.calls-callee-items.result.now c.loop-callee.callee-index w.in-Some.weight.now (omega arith)
      (slice_get_read c.args.weights.now (length c.args.weights.now) (get_or c.calls-callee-items.result.now c.loop-callee.callee-index 0)
      w.in-Some.weight.now refl less w.in-Some.ensures.lookup.1))
  | in_default w ↦
      w.most-is ∙ c.loop-callee.invariant ∙
      sym (most_none c.args.weights.now c.calls-callee-items.result.now c.loop-callee.callee-index (omega arith)
      (past c.args.weights.now (get_or c.calls-callee-items.result.now c.loop-callee.callee-index 0) w.in_default.ensures.lookup.3))
]
