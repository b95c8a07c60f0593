use Rattle.std.proofs.Common.{◌<◌, length, sym, ap, ◌∙◌, Some, arith}
use Rattle.std.proofs.lemmas.Option.{slice_get-get_or}
use Rattle.pearl_kernel.proofs.SameReads.{none-compared, one-compared, all-compared}
use Rattle.pearl_kernel.proofs.alike.are_same_kinds.Goals as goal

pub loop-place-init : goal.loop-place-init
loop-place-init c = none-compared c.args.kinds.now c.args.others.now (omega arith)

pub loop-place-preserved : goal.loop-place-preserved
loop-place-preserved c =
    let l = c.loop-place in
    let size = l.invariant.size in
    let within = c.loop-place-test.true in
    let there : l.place < length c.args.others.now = omega (arith, size, within) in
    one-compared c.args.kinds.now c.args.others.now l.place l.invariant
    (slice_get-get_or c.args.kinds.now l.place _ within ∙ ap Some (c.is_same_kind.ensures c.if-not-is_same_kind.false)
    ∙ sym (slice_get-get_or c.args.others.now l.place _ there))

pub returns : goal.returns
returns c = λ t.
    let l = c.loop-place in
    let end = c.loop-place-test.false in
    all-compared c.args.kinds.now c.args.others.now l.invariant.size (λ k within. l.invariant.each k (omega (arith, within, end)))
