use Rattle.std.proofs.Common.{◌≡◌, ◌≤◌, ◌+◌, length, take}
use Rattle.std.specs.List.{suffix_len}
use Rattle.pearl_scan.specs.Gaps.{is_gap}
use Rattle.pearl_scan.proofs.gap.before_blanks.Given as goal

abbrev pub invariant-loop-end : goal.invariant-loop-end
invariant-loop-end l = record {
  far : l.end + suffix_len (is_gap l.gap) l.text ≡ length l.text + suffix_len (is_gap l.gap) (take l.end l.text);
  within : l.end ≤ length l.text;
}

abbrev pub decreases-loop-end : goal.decreases-loop-end
decreases-loop-end l = l.end
