use Rattle.std.proofs.Common.{◌≡◌, ◌≤◌, drop}
use Rattle.pearl_rules.specs.Literals.{number_up_to}
use Rattle.pearl_scan.proofs.Numbers.{number_from}
use Rattle.pearl_scan.proofs.number.number_up_to.Given as goal

abbrev pub invariant-loop-digit : goal.invariant-loop-digit
invariant-loop-digit l = record {
  same : number_from l.limit l.value (drop l.digit-index l.digits) ≡ number_up_to l.limit l.digits;
  below : l.value ≤ l.limit;
}
