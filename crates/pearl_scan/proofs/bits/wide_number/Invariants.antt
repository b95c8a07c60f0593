use Rattle.std.proofs.Common.{◌≡◌, ◌<◌, ◌*◌, ◌^◌, drop}
use Rattle.pearl_rules.specs.Literals.{bits_number}
use Rattle.pearl_scan.proofs.BitLaws.{bits_from}
use Rattle.pearl_scan.proofs.bits.wide_number.Given as goal

abbrev pub invariant-loop-digit : goal.invariant-loop-digit
invariant-loop-digit l = record {
  same : bits_from l.group l.value (drop l.digit-index l.digits) ≡ bits_number l.group l.digits;
  below : l.value < 2 ^ (l.group * l.digit-index);
}
