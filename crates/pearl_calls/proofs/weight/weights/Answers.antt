use Rattle.std.proofs.Common.{◌≡◌, ◌<◌, ◌+◌, ◌∙◌, refl, sym, ap, subst, take, get_or, length, arith}
use Rattle.std.specs.Prelude.{slice_get}
use Rattle.std.specs.List.{filter_map}
use Rattle.pearl_calls.proofs.Weighing.{Weighed, is_there, one_weighed, all_weighed}
use Rattle.pearl_calls.specs.Numberings.{IsNumbering}
use Rattle.pearl_calls.specs.Weights.{capped, greatest}
use Rattle.pearl_calls.proofs.weight.weights.Goals as goal

pub caller_at-requires : goal.caller_at-requires
caller_at-requires c =
    is_there c.args.callers.now c.order-procedure-items.result.now
    (subst (λ z. IsNumbering c.args.callers.now z) (sym c.order-procedure-items.ensures) c.requires)
    c.loop-procedure.procedure-index (omega arith)

pub index_mut-requires : goal.index_mut-requires
index_mut-requires c =
    let inside : get_or c.order-procedure-items.result.now c.loop-procedure.procedure-index 0 < length c.args.callers.now =
    is_there c.args.callers.now c.order-procedure-items.result.now
    (subst (λ z. IsNumbering c.args.callers.now z) (sym c.order-procedure-items.ensures) c.requires)
    c.loop-procedure.procedure-index (omega arith) in
    omega (arith, inside, c.loop-procedure.invariant.counted, c.loop-procedure.weights.ok.0)

pub loop-procedure-preserved : goal.loop-procedure-preserved
loop-procedure-preserved c =
    one_weighed c.args.callers.now c.order-procedure-items.result.now
    (subst (λ z. IsNumbering c.args.callers.now z) (sym c.order-procedure-items.ensures) c.requires)
    c.loop-procedure.procedure-index c.loop-procedure.weights.items (get_or c.order-procedure-items.result.now c.loop-procedure.procedure-index 0)
    c.add_up-weight.result c.caller_at.result.now (omega arith) refl c.caller_at.ensures c.loop-procedure.invariant
    (c.add_up-weight.ensures ∙
    ap (λ z. capped (c.caller_at.result.now.own + greatest (filter_map (slice_get z) c.caller_at.result.now.calls))) c.as_slice.ensures.value)

pub returns : goal.returns
returns c =
    let all : c.loop-procedure.procedure-index ≡ length c.order-procedure-items.result.now = omega arith in
    all_weighed c.args.callers.now c.order-procedure-items.result.now
    (subst (λ z. IsNumbering c.args.callers.now z) (sym c.order-procedure-items.ensures) c.requires)
    c.loop-procedure.weights.items
    (subst (λ z. Weighed c.args.callers.now (take z c.order-procedure-items.result.now) c.loop-procedure.weights.items) all c.loop-procedure.invariant)
