use Rattle.std.proofs.Common.{◌*◌, sym, ◌∙◌}
use Rattle.pearl_scan.proofs.Pieces.{no_digits, two_read, below_thousand}
use Rattle.pearl_scan.proofs.number.thousandths.Goals as goal

pub returns-in_err-spelled-clause-value : goal.returns-in_err-spelled-clause-value
returns-in_err-spelled-clause-value c =
    c.from_residual.ensures ∙ sym (no_digits c.args.digits.now c.if-digits-gt3.false (sym c.number_up_to.ensures.value ∙ c.in_err-spelled.was))

pub returns-in-2-clause-value : goal.returns-in-2-clause-value
returns-in-2-clause-value c = sym (two_read c.args.digits.now c.in_ok-spelled.field-0 c.in-2.is (sym c.number_up_to.ensures.value ∙ c.in_ok-spelled.was))

pub returns-in-2-clause-within : goal.returns-in-2-clause-within
returns-in-2-clause-within c =
    below_thousand c.args.digits.now (c.in_ok-spelled.field-0 * 10)
    (two_read c.args.digits.now c.in_ok-spelled.field-0 c.in-2.is (sym c.number_up_to.ensures.value ∙ c.in_ok-spelled.was))
