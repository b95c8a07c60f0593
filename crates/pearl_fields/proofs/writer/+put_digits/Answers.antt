use Rattle.std.proofs.Common.{append_assoc, refl}
use Rattle.pearl_fields.proofs.Numbers.{digits_step, digits_last}
use Rattle.pearl_fields.proofs.writer.+put_digits.Goals as goal

pub returns : goal.returns
returns t c = rw (digits_step c.args.k c.args.value c.requires.below c.if-value-lt128.false, c.in_ok-put_digits.ensures, c.in_ok-push-2.ensures.items, append_assoc) refl

pub returns-then-value-lt128 : goal.returns-then-value-lt128
returns-then-value-lt128 t c = rw (digits_last c.args.k c.args.value c.if-value-lt128.true, c.in_ok-push.ensures.items) refl
