use Rattle.std.proofs.Common.{◌≡◌, ◌≤◌, ◌-◌, length, drop}
use Rattle.pearl_rules.specs.Scan.{lines_length}
use Rattle.pearl_scan.proofs.Pieces.{added}
use Rattle.pearl_scan.proofs.item.lines_length.Given as goal

abbrev pub invariant-loop : goal.invariant-loop
invariant-loop l = record {
  far : added l.used (lines_length (l.count - l.counter) (drop l.used l.bytes)) ≡ lines_length l.count l.bytes;
  within : l.used ≤ length l.bytes;
}
