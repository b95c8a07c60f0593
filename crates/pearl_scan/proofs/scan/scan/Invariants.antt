use Rattle.std.proofs.Common.{◌≡◌, ◌≤◌, length, drop}
use Rattle.pearl_rules.specs.Scan.{behind, scan}
use Rattle.pearl_scan.proofs.scan.scan.Given as goal

abbrev pub invariant-loop-item : goal.invariant-loop-item
invariant-loop-item l = record {
  far : behind l.used l.values.items (scan (drop l.item-index l.items) (drop (length l.values.items) l.kinds) (drop l.used l.bytes))
      ≡ scan l.items l.kinds l.bytes;
  within : l.used ≤ length l.bytes;
  fewer : length l.values.items ≤ length l.kinds;
}
