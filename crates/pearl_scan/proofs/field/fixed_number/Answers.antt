use Rattle.std.proofs.Common.{◌^◌, ap, sym, ◌∙◌}
use Rattle.std.specs.Prelude.{Some, option_map}
use Rattle.pearl_value.specs.Conversions.{fits_fixed}
use Rattle.pearl_rules.specs.Scan.{if_fits}
use Rattle.pearl_scan.specs.Digits.{signed}
use Rattle.pearl_scan.proofs.Pieces.{unfit, read_digits, through_bits}
use Rattle.pearl_scan.proofs.field.fixed_number.Goals as goal

pub returns-in_err-size : goal.returns-in_err-size
returns-in_err-size c =
    c.from_residual.ensures
    ∙ sym (ap (if_fits (fits_fixed c.args.len)) c.split_sign-is_negative.ensures
    ∙ unfit c.args.len c.split_sign-is_negative.result.0 c.split_sign-is_negative.result.1.now c.requires.1 (sym c.number_up_to.ensures.value ∙ c.in_err-size.was))

pub returns : goal.returns
returns c =
    c.narrowed.ensures
    ∙ ap (λ value. if_fits (fits_fixed c.args.len) (Some value))
    (through_bits c.split_sign-is_negative.result.0 c.in_ok-size.size c.with_sign.result c.with_sign.ensures c.in_ok-size.ensures.within)
    ∙ ap (λ o. if_fits (fits_fixed c.args.len) (option_map (signed c.split_sign-is_negative.result.0) o))
    (sym (read_digits (2 ^ 63) c.split_sign-is_negative.result.1.now c.in_ok-size.size (sym c.number_up_to.ensures.value ∙ c.in_ok-size.was)))
    ∙ ap (if_fits (fits_fixed c.args.len)) (sym c.split_sign-is_negative.ensures)
