use Rattle.pearl_format.proofs.Digits.{digit_small}
use Rattle.pearl_format.proofs.field.digit_at.Goals as goal

pub returns-clause-small : goal.returns-clause-small
returns-clause-small c = digit_small c.above.result c.args.group c.requires
