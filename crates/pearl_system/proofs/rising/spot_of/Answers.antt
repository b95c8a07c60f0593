use Rattle.std.proofs.Common.{◌+◌, ◌-◌, ◌/◌, ◌<◌, ◌≤◌, length, refl, subst, arith}
use Rattle.pearl_system.specs.Devices.{device_key}
use Rattle.pearl_system.specs.Rising.{IsLess}
use Rattle.pearl_system.proofs.Lists.{above_all, below_all}
use Rattle.pearl_system.proofs.rising.spot_of.Goals as goal

pub loop-low-preserved-then-is_less : goal.loop-low-preserved-then-is_less
loop-low-preserved-then-is_less c =
    let items = c.args.items.now in
    let low = c.loop-low.low in
    let high = c.loop-low.high in
    let middle = low + (high - low) / 2 in
    let apart : low < high = c.loop-low-test.true in
    let within : high ≤ length items = c.loop-low.invariant.1 in
    let next : middle + 1 ≤ high = omega (arith, apart) in
    let inside : middle < length items = omega (arith, next, within) in
    let less = subst (λ k. IsLess k c.args.key) c.key_of-standing.ensures (c.if-is_less.ensures.yes refl) in
    (next, within, below_all device_key items middle c.args.key c.index-items-middle.result c.requires inside c.index-items-middle.is less, c.loop-low.invariant.3)

pub loop-low-preserved : goal.loop-low-preserved
loop-low-preserved c =
    let items = c.args.items.now in
    let low = c.loop-low.low in
    let high = c.loop-low.high in
    let middle = low + (high - low) / 2 in
    let apart : low < high = c.loop-low-test.true in
    let within : high ≤ length items = c.loop-low.invariant.1 in
    let under : middle < high = omega (arith, apart) in
    let inside : middle < length items = omega (arith, under, within) in
    let more = subst (λ k. IsLess c.args.key k) c.key_of-standing.ensures (c.if-is_less-2.ensures.yes refl) in (
      omega (arith, apart),
      omega (arith, inside),
      c.loop-low.invariant.2,
      above_all device_key items middle c.args.key c.index-items-middle.result c.requires inside c.index-items-middle.is more,
    )
