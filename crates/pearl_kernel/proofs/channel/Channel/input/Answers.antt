use Rattle.std.proofs.Common.{rules, ◌≡◌, ◌<◌, Some, length, get_or, sym, subst}
use Rattle.pearl_value.specs.declared.cell.Cell.{Cell}
use Rattle.pearl_port.specs.Families.{family_of}
use Rattle.pearl_port.specs.Inputs.{family_of_kind}
use Rattle.pearl_port.specs.Pending.{Queue}
use Rattle.pearl_kernel.proofs.Made.{one-of, family-is, one-waits}
use Rattle.pearl_kernel.proofs.channel.Channel.input.Goals as goal

pub offer-requires : goal.offer-requires
offer-requires c =
    let pending = c.args.pending.now in let i = c.loop-value.value-index in let x = c.value-item.result in
    let less : i < length pending = search rules in
    let is : x ≡ get_or pending i x = search rules in
    subst (λ (q : Queue Cell). family_of x ≡ Some (family_of_kind q.kind)) (sym c.loop-value.invariant)
    (family-is c.args.kind x (one-of c.args.kind pending i x less is c.requires.0))

pub loop-value-preserved : goal.loop-value-preserved
loop-value-preserved c =
    let pending = c.args.pending.now in let i = c.loop-value.value-index in let x = c.value-item.result in
    let less : i < length pending = search rules in
    let is : x ≡ get_or pending i x = search rules in
    one-waits c.args.kind pending i x c.loop-value.input c.offer.new.self c.offer.result less c.requires.1 is c.loop-value.invariant
    c.offer.ensures.full c.offer.ensures.queue
