use Rattle.std.proofs.Common.{◌≡◌, ◌+◌, ◌≤◌, ℕ, List, ◌++◌, false, length}
use Rattle.pearl_journal.specs.Pieces.{HasNoWhole}
use Rattle.pearl_top.specs.Replay.{Carried}
use Rattle.pearl_top.proofs.replay.carry_out_piece.Given as goal

-- what was taken of the piece was carried out
abbrev pub invariant-lines : goal.invariant-lines
invariant-lines g l = record {
  carried : (bytes : List ℕ) × (l.piece ≡ bytes ++ l.left)
      × Carried g.F.Follower.going l.fn.lines l.fn.follower bytes l.lines l.follower (g.K.Sink.taken l.fn.sink) (g.K.Sink.taken l.sink);
  no_whole : HasNoWhole l.lines;
  unfinished : l.lines.is_finished ≡ false;
  counted : l.lines.lines + length l.left ≤ l.fn.lines.lines + length l.piece;
  later : g.K.Sink.faults l.fn.sink ≤ g.K.Sink.faults l.sink;
}

abbrev pub decreases-lines : goal.decreases-lines
decreases-lines g l = length l.left
