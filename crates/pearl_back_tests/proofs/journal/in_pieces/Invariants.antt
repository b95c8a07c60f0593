use Rattle.std.proofs.Common.{◌≡◌, ◌+◌, ◌≤◌, false, length}
use Rattle.pearl_back_tests.proofs.journal.in_pieces.Given as goal

abbrev pub invariant-pieces : goal.invariant-pieces
invariant-pieces l = record {
  partial : l.lines.is_whole ≡ false;
  unfinished : l.lines.is_finished ≡ false;
  counted : l.lines.lines + length l.left ≤ length l.journal;
}

abbrev pub decreases-pieces : goal.decreases-pieces
decreases-pieces l = length l.left
