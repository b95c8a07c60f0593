use Rattle.std.proofs.Common.{rules, ◌≡◌, ◌<◌, ◌^◌, Some, None, nat_le, nat_lt, sym, ap, ◌∙◌, arith}
use Rattle.pearl_tree.specs.declared.literal.Sign.TheVariants.{Plus, Minus}
use Rattle.pearl_value.specs.Conversions.{fits_fixed}
use Rattle.pearl_scope.specs.Constants.{signed}
use Rattle.pearl_scope.proofs.Fitting.{plain_fits, end_le, end_lt}
use Rattle.pearl_scope.proofs.init.fits_fixed.Goals as goal

pub returns-in-Some-Minus : goal.returns-in-Some-Minus
returns-in-Some-Minus c =
    let value = c.args.value in
    let len = c.args.len in
    let few : value < 2 ^ 64 = omega (arith, c.ranges.value.fits) in
    let sign : c.args.sign ≡ Some Minus = search rules in
    (λ i. nat_le (c.from.ensures i) (c.end_of_fixed-end.ensures i)) ∙ end_le len value few ∙ sym (plain_fits len (Some Minus) value) ∙ ap (λ s. fits_fixed len (signed s value)) (sym sign)

pub returns-in-Some-Plus : goal.returns-in-Some-Plus
returns-in-Some-Plus c =
    let value = c.args.value in
    let len = c.args.len in
    let few : value < 2 ^ 64 = omega (arith, c.ranges.value.fits) in
    let sign : c.args.sign ≡ Some Plus = search rules in
    (λ i. nat_lt (c.from-in-Some-Plus.ensures i) (c.end_of_fixed-end.ensures i)) ∙ end_lt len value few ∙ sym (plain_fits len (Some Plus) value) ∙ ap (λ s. fits_fixed len (signed s value)) (sym sign)

pub returns-in-None : goal.returns-in-None
returns-in-None c =
    let value = c.args.value in
    let len = c.args.len in
    let few : value < 2 ^ 64 = omega (arith, c.ranges.value.fits) in
    (λ i. nat_lt (c.from-in-None.ensures i) (c.end_of_fixed-end.ensures i)) ∙ end_lt len value few ∙ sym (plain_fits len None value) ∙ ap (λ s. fits_fixed len (signed s value)) (sym c.in-None.is)
