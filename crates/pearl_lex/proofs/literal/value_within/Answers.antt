use Rattle.std.proofs.Common.{arith}
use Rattle.pearl_lex.proofs.Values.{over}
use Rattle.pearl_lex.proofs.literal.value_within.Goals as goal

pub returns-then-next-max : goal.returns-then-next-max
returns-then-next-max c = over c.args.digits.now c.loop-digit.digit-index c.loop-digit.value c.args.max (omega arith) c.loop-digit.invariant.0 (omega arith)
