use Rattle.std.proofs.Common.{arith}
use Rattle.std.proofs.lemmas.Nat.{one_shl}
use Rattle.pearl_scan.proofs.BitLaws.{one_more}
use Rattle.pearl_scan.proofs.bits.followed_by.Goals as goal

pub returns-clause-within : goal.returns-clause-within
returns-clause-within c = λ count below.
    rw (one_shl c.args.group 128 (omega arith)) (one_more c.args.group count c.args.value c.in_ok-digit.digit below c.in_ok-digit.ensures.some.2)
