use Rattle.std.proofs.Common.{arith, ap, ◌∙◌, ◌-◌, sym}
use Rattle.std.specs.Prelude.{Some}
use Rattle.std.proofs.lemmas.Nat.{shl_whole}
use Rattle.pearl_scan.proofs.BitLaws.{short_bits, first_below}
use Rattle.pearl_scan.proofs.bits.first_bits.Goals as goal

pub returns-then-count-len : goal.returns-then-count-len
returns-then-count-len c =
    ap Some (shl_whole c.args.value c.args.count (c.args.len - c.args.count) 64 c.requires.within (omega arith))
    ∙ sym (short_bits c.args.len c.args.count c.args.value (omega arith))

pub overflow_cast-result-then-value-past-eq0-2 : goal.overflow_cast-result-then-value-past-eq0-2
overflow_cast-result-then-value-past-eq0-2 c =
    let below = first_below c.args.len c.args.count c.args.value (omega arith) (omega arith) c.requires.within in
    omega (arith, below)
