use Rattle.std.proofs.Common.{◌<◌, ◌^◌, append_assoc, refl, arith}
use Rattle.pearl_fields.proofs.Numbers.{number_spelled, digits_long, digits_last}
use Rattle.pearl_fields.proofs.writer.put_number.Goals as goal

pub returns : goal.returns
returns c =
    let few : c.args.value < 2 ^ 64 = omega (arith, c.ranges.value) in
    rw (number_spelled c.args.value few, digits_long 8 c.args.value c.if-value-lt128.false, c.in_ok-put_digits.ensures, c.in_ok-push-2.ensures.items, append_assoc) refl

pub returns-then-value-lt128 : goal.returns-then-value-lt128
returns-then-value-lt128 c =
    let few : c.args.value < 2 ^ 64 = omega (arith, c.ranges.value) in
    rw (number_spelled c.args.value few, digits_last 9 c.args.value c.if-value-lt128.true, c.in_ok-push.ensures.items) refl
