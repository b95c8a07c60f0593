use Rattle.std.proofs.Common.{◌≡◌, ◌∙◌, length, subst, arith}
use Rattle.pearl_calls.proofs.Closing.{Collected, one_collected, all_collected}
use Rattle.pearl_calls.proofs.Rows.{callees_at}
use Rattle.pearl_calls.proofs.order.Calling.of.Goals as goal

pub loop-number-preserved : goal.loop-number-preserved
loop-number-preserved c =
    one_collected c.args.callers.now c.loop-number.number c.loop-number.calling c.add_calls.new.self c.calls.result.now c.loop-number.invariant
    (c.calls.ensures ∙ callees_at c.args.callers.now c.loop-number.number c.index-callers-number.result (omega arith) c.index-callers-number.is)
    (record { same_length = c.in_ok-add_calls.ensures.length; added = c.in_ok-add_calls.ensures.added })

pub returns-clause-callers : goal.returns-clause-callers
returns-clause-callers c =
    let all : c.loop-number.number ≡ length c.args.callers.now = omega arith in
    all_collected c.args.callers.now c.loop-number.calling
    (subst (λ z. Collected c.args.callers.now z c.loop-number.calling) all c.loop-number.invariant)
