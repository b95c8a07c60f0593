use Rattle.std.proofs.Common.{◌≡◌, get_or, ◌+◌, ◌*◌, ◌^◌, ap, ◌∙◌, arith}
use Rattle.std.proofs.lemmas.Nat.{pow_pos}
use Rattle.pearl_lex.specs.Quoted.{digit_value}
use Rattle.pearl_lex.proofs.BitsRoom.{bits_step, bits_room, digits_go_on, value_goes_on}
use Rattle.pearl_lex.proofs.quoted.bits_value.Goals as goal

pub overflow_mul-value : goal.overflow_mul-value
overflow_mul-value c =
    let w = c.args.width in
    let h = c.loop-digit in
    let room = bits_room w h.digit-index _ h.value 0 h.invariant.few (pow_pos w) c.loop-digit-test.true c.requires.few in
    let base : h.value * c.from.result ≡ h.value * 2 ^ w = ap (λ b. h.value * b) (c.from.ensures ∙ c.requires.base) in
    omega (arith, room, base)

pub overflow_add-value : goal.overflow_add-value
overflow_add-value c =
    let w = c.args.width in
    let h = c.loop-digit in
    let go = digits_go_on w c.args.digits.now h.digit-index c.loop-digit-test.true h.invariant.rest in
    let room = bits_room w h.digit-index _ h.value _ h.invariant.few go.0 c.loop-digit-test.true c.requires.few in
    let base : h.value * c.from.result ≡ h.value * 2 ^ w = ap (λ b. h.value * b) (c.from.ensures ∙ c.requires.base) in
    omega (arith, room, base, c.from-in-loop-digit.ensures, c.digit_value.ensures.value)

pub loop-digit-preserved : goal.loop-digit-preserved
loop-digit-preserved c =
    let w = c.args.width in
    let h = c.loop-digit in
    let go = digits_go_on w c.args.digits.now h.digit-index c.loop-digit-test.true h.invariant.rest in
    let step = bits_step w h.digit-index h.value _ h.invariant.few go.0 in
    let base : h.value * c.from.result ≡ h.value * 2 ^ w = ap (λ b. h.value * b) (c.from.ensures ∙ c.requires.base) in
    let next : h.value * c.from.result + c.from-in-loop-digit.result ≡ h.value * 2 ^ w + digit_value (get_or c.args.digits.now h.digit-index 0) = omega (arith, base, c.from-in-loop-digit.ensures, c.digit_value.ensures.value) in
    record {
      all = value_goes_on w c.args.digits.now h.digit-index h.value _ c.loop-digit-test.true next ∙ h.invariant.all;
      rest = go.1;
      few = omega (arith, step, base, c.from-in-loop-digit.ensures, c.digit_value.ensures.value);
    }
