use Rattle.std.proofs.Common.{arith}
use Rattle.pearl_format.proofs.Digits.{nothing_above}
use Rattle.pearl_format.proofs.field.above.Goals as goal

pub returns-else-places-lt128 : goal.returns-else-places-lt128
returns-else-places-lt128 c = nothing_above c.args.value c.args.places (omega arith) (omega (arith, c.if-places-lt128.false))
