use Rattle.std.proofs.Common.{◌≡◌, ◌+◌, ◌-◌, ◌≤◌, length, drop}
use Rattle.std.specs.List.{prefix_len}
use Rattle.pearl_lex.specs.Spelling.{is_in_line}
use Rattle.pearl_lex.proofs.spelling.line_count.Given as goal

abbrev pub invariant-loop-count : goal.invariant-loop-count
invariant-loop-count l =
    (l.count + prefix_len is_in_line (drop l.count l.bytes) ≡ prefix_len is_in_line l.bytes) × (l.count ≤ length l.bytes)

abbrev pub decreases-loop-count : goal.decreases-loop-count
decreases-loop-count l = length l.bytes - l.count
