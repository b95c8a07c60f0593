use Rattle.std.proofs.Common.{◌≡◌, [], ◌++◌, length, take, drop, refl, ap, ◌∙◌, arith}
use Rattle.std.proofs.lemmas.Result.{err_from_is_err_and}
use Rattle.pearl_io.proofs.Offered.{failed_since, rose_since}
use Rattle.pearl_journal.specs.Pieces.{Kept}
use Rattle.pearl_top.proofs.FetchLaws.{ends_failed, ends_fault, ends_long, ends_whole, piece_size, progress_more}
use Rattle.pearl_top.proofs.LineLaws.{begins_open, carried-none}
use Rattle.pearl_top.proofs.replay.carry_out.Goals as goal

pub pieces-init : goal.pieces-init
pieces-init g c = record {
  progress = record { bytes = []; far = refl; front = λ files tells. refl; carried = carried-none g.F.Follower.going c.laws.ensures.in_turn c.args.lines.now c.args.follower.now _ c.requires.rests };
  within = omega arith;
  counted = omega (arith, c.requires.unread.none);
  no_whole = begins_open c.args.lines.now c.requires.unread;
  unfinished = c.requires.unread.unfinished;
  held = refl;
  shelf_later = λ name. omega arith;
  sink_later = omega arith;
}

pub returns-then-count-eq0-clause-ends : goal.returns-then-count-eq0-clause-ends
returns-then-count-eq0-clause-ends g c =
    let inv = c.pieces.invariant in
    ends_whole g.F.Follower.going c.laws.ensures.in_turn c.args.lines.now c.requires.unread c.carry_out_line.result _ (g.S.Shelf.holds c.pieces.shelf) c.args.journal.now c.fetch.new.into c.pieces.place c.in-Ok.count c.pieces.lines c.finish.new.self c.carry_out_line.new.lines
    c.args.follower.now c.pieces.follower c.carry_out_line.new.follower _ _ _ _ _ _ (failed_since _ _ _ _ inv.sink_later) inv.within inv.held
    c.in-Ok.ensures.piece c.if-count-eq0.true inv.progress c.finish.ensures.read (c.carry_out_line.ensures.finished ∙ ap (λ (k : Kept). k.is_finished) c.finish.ensures.finished)
    c.carry_out_line.ensures.no_whole c.carry_out_line.ensures.ok c.carry_out_line.ensures.err

pub returns-in-Err-clause-ends : goal.returns-in-Err-clause-ends
returns-in-Err-clause-ends g c =
    let inv = c.pieces.invariant in
    ends_fault g.F.Follower.going c.laws.ensures.in_turn c.args.lines.now c.requires.unread _ c.args.journal.now c.pieces.place c.pieces.lines c.args.follower.now c.pieces.follower _ _ _ ⊥ (rose_since _ _ _ (inv.shelf_later c.args.journal.now) c.in-Err.ensures.cause)
    inv.within inv.no_whole inv.progress

pub returns-in_err-carry_out_piece-clause-ends : goal.returns-in_err-carry_out_piece-clause-ends
returns-in_err-carry_out_piece-clause-ends g c =
    let inv = c.pieces.invariant in
    let p = err_from_is_err_and c.from_residual.result c.from_residual.ensures.1 in
    rw (p.1, p.2) (ends_failed g.F.Follower.going c.laws.ensures.in_turn c.args.lines.now c.requires.unread _ (g.S.Shelf.holds c.pieces.shelf) c.args.journal.now c.fetch.new.into _ _ c.pieces.place c.in-Ok.count c.min.result c.pieces.lines
    c.args.follower.now c.pieces.follower c.carry_out_piece.new.follower _ _ _ c.in_err-carry_out_piece.field-0.0 _ _ _ (failed_since _ _ _ _ inv.sink_later) inv.held
    c.in-Ok.ensures.piece (omega arith) (omega (arith, inv.within)) refl inv.progress c.in_err-carry_out_piece.ensures.err)

pub returns-then-count-left-clause-ends : goal.returns-then-count-left-clause-ends
returns-then-count-left-clause-ends g c =
    let inv = c.pieces.invariant in
    ends_long g.F.Follower.going c.laws.ensures.in_turn c.args.lines.now c.requires.unread (g.S.Shelf.holds c.args.shelf.now) (g.S.Shelf.holds c.pieces.shelf) c.args.journal.now c.fetch.new.into _ _ c.pieces.place c.in-Ok.count c.min.result c.pieces.lines c.carry_out_piece.new.lines
    c.args.follower.now c.pieces.follower c.carry_out_piece.new.follower _ _ _ ⊥ ⊥ inv.held c.in-Ok.ensures.piece (omega arith) (omega (arith, inv.within)) refl
    (piece_size c.fetch.new.into _ c.min.result (omega (arith, c.in-Ok.ensures.bound, c.fetch.auto.into))) c.in_ok-carry_out_piece.ensures.no_whole inv.progress c.in_ok-carry_out_piece.ensures.ok

pub pieces-preserved : goal.pieces-preserved
pieces-preserved g c =
    let inv = c.pieces.invariant in
    let size : length (take c.min.result (c.fetch.new.into ++ drop c.min-wanted.result c.pieces.buffer)) ≡ c.in-Ok.count =
    piece_size c.fetch.new.into (drop c.min-wanted.result c.pieces.buffer) c.min.result (omega (arith, c.in-Ok.ensures.bound, c.fetch.auto.into)) ∙ omega arith in record {
      progress = progress_more g.F.Follower.going c.laws.ensures.in_turn c.args.lines.now c.requires.unread _ (g.S.Shelf.holds c.pieces.shelf) c.args.journal.now c.fetch.new.into _ _ c.pieces.place c.in-Ok.count c.min.result c.pieces.lines c.carry_out_piece.new.lines
          c.args.follower.now c.pieces.follower c.carry_out_piece.new.follower _ _ _ inv.held c.in-Ok.ensures.piece (omega arith) refl size inv.progress c.in_ok-carry_out_piece.ensures.ok;
      within = omega (arith, inv.within);
      counted = omega (arith, size, inv.counted, c.in_ok-carry_out_piece.ensures.counted);
      no_whole = c.in_ok-carry_out_piece.ensures.no_whole;
      unfinished = c.carry_out_piece.ensures.unfinished;
      held = c.fetch.ensures.held ∙ inv.held;
      shelf_later = λ name. omega (arith, inv.shelf_later name, c.fetch.ensures.later name);
      sink_later = omega (arith, c.carry_out_piece.ensures.later);
    }
