use Rattle.std.proofs.Common.{arith, rules, length}
use Rattle.std.proofs.lemmas.Nat.{pow_pos}
use Rattle.pearl_scan.proofs.BitLaws.{bits_from-start, wider, places_more}
use Rattle.pearl_scan.proofs.bits.wide_number.Goals as goal

pub loop-digit-init : goal.loop-digit-init
loop-digit-init c = search (rules, bits_from-start, pow_pos)

pub followed_by-requires-clause-small : goal.followed_by-requires-clause-small
followed_by-requires-clause-small c =
    let most = places_more c.args.group c.loop-digit.digit-index (length c.args.digits.now) (omega arith) in
    wider c.loop-digit.value _ 80 (omega (arith, most)) c.loop-digit.invariant.below
