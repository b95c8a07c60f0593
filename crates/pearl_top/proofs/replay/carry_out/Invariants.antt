use Rattle.std.proofs.Common.{◌≡◌, ◌-◌, ◌≤◌, ℕ, List, false}
use Rattle.pearl_journal.specs.Pieces.{HasNoWhole}
use Rattle.pearl_top.specs.declared.limits.TheConstants.{JOURNAL_LIMIT}
use Rattle.pearl_top.specs.Replay.{Progress}
use Rattle.pearl_top.proofs.replay.carry_out.Given as goal

-- what was read was carried out
abbrev pub invariant-pieces : goal.invariant-pieces
invariant-pieces g l = record {
  progress : Progress g.F.Follower.going (g.S.Shelf.holds l.fn.shelf) l.journal l.place l.fn.lines l.lines l.fn.follower l.follower (g.K.Sink.taken l.fn.sink) (g.K.Sink.taken l.sink);
  within : l.place ≤ JOURNAL_LIMIT;
  counted : l.lines.lines ≤ l.place;
  no_whole : HasNoWhole l.lines;
  unfinished : l.lines.is_finished ≡ false;
  held : g.S.Shelf.holds l.shelf ≡ g.S.Shelf.holds l.fn.shelf;
  shelf_later : (name : List ℕ) → g.S.Shelf.faults l.fn.shelf name ≤ g.S.Shelf.faults l.shelf name;
  sink_later : g.K.Sink.faults l.fn.sink ≤ g.K.Sink.faults l.sink;
}

abbrev pub decreases-pieces : goal.decreases-pieces
decreases-pieces g l = JOURNAL_LIMIT - l.place
