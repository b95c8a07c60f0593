use Rattle.std.proofs.Common.{◌≡◌, ◌≤◌, ◌+◌, ◌-◌, length, drop}
use Rattle.std.specs.List.{prefix_len}
use Rattle.pearl_scan.specs.Gaps.{is_gap}
use Rattle.pearl_scan.proofs.gap.behind_blanks.Given as goal

abbrev pub invariant-loop-start : goal.invariant-loop-start
invariant-loop-start l = record {
  far : l.start + prefix_len (is_gap l.gap) (drop l.start l.text) ≡ prefix_len (is_gap l.gap) l.text;
  within : l.start ≤ length l.text;
}

abbrev pub decreases-loop-start : goal.decreases-loop-start
decreases-loop-start l = length l.text - l.start
