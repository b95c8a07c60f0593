use Rattle.std.proofs.Common.{◌≡◌, [], ◌++◌, take, drop, length, refl, ap, sym, ◌∙◌, subst, arith, length-drop}
use Rattle.std.proofs.lemmas.List.{take_rest}
use Rattle.std.proofs.lemmas.Result.{err_from_is_err_and}
use Rattle.pearl_io.specs.Outside.{WriteFailed}
use Rattle.pearl_io.proofs.Offered.{failed_since}
use Rattle.pearl_journal.specs.Pieces.{Kept}
use Rattle.pearl_journal.proofs.Offered.{taken_some, taken_within}
use Rattle.pearl_top.specs.Replay.{Carried, IsFailure}
use Rattle.pearl_top.proofs.LineLaws.{carried-line, carried-none, fails-behind, fails-line, more_front, none_left, some_left}
use Rattle.pearl_top.proofs.TakenLaws.{append_nil}
use Rattle.pearl_top.proofs.replay.carry_out_piece.Goals as goal

pub lines-init : goal.lines-init
lines-init g c = record {
  carried = ([], refl, carried-none g.F.Follower.going c.laws.ensures.in_turn c.args.lines.now c.args.follower.now _ c.requires.rests);
  no_whole = c.requires.no_whole;
  unfinished = c.requires.unfinished;
  counted = omega arith;
  later = omega arith;
}

pub returns-in_err-carry_out_line-clause-err : goal.returns-in_err-carry_out_line-clause-err
returns-in_err-carry_out_line-clause-err g c =
    let so_far = c.lines.invariant.carried in
    let n = c.feed-count.result in
    let left = c.lines.left.now in
    let p = err_from_is_err_and c.from_residual.result c.from_residual.ensures.1 in
    rw (p.1, p.2) (subst (λ all. IsFailure g.F.Follower.going c.in_err-carry_out_line.field-0.0 c.args.lines.now c.args.follower.now all c.carry_out_line.new.follower (g.K.Sink.taken c.args.sink.now)
    (g.K.Sink.taken c.carry_out_line.new.sink) (WriteFailed (g.K.Sink.faults c.args.sink.now) (g.K.Sink.faults c.carry_out_line.new.sink) (g.K.Sink.full c.carry_out_line.new.sink)))
    (sym (more_front c.args.piece.now so_far.0 left n so_far.1))
    (fails-behind g.F.Follower.going c.laws.ensures.in_turn c.args.lines.now c.args.follower.now c.carry_out_line.new.follower (so_far.0 ++ take n left) (drop n left) _ _ c.in_err-carry_out_line.field-0.0 _
    (fails-line g.F.Follower.going c.laws.ensures.in_turn c.args.lines.now c.lines.lines c.feed-count.new.self c.args.follower.now c.lines.follower c.carry_out_line.new.follower so_far.0 (take n left) _ _ _
    c.in_err-carry_out_line.field-0.0 _ _ (failed_since _ _ _ _ c.lines.invariant.later) so_far.2 c.feed-count.ensures.read c.feed-count.ensures.ended
    c.in_err-carry_out_line.ensures.err)))

pub lines-preserved : goal.lines-preserved
lines-preserved g c =
    let so_far = c.lines.invariant.carried in
    let n = c.feed-count.result in
    let left = c.lines.left.now in
    let some = some_left c.is_empty.result (length left) c.is_empty.ensures c.lines-test.true in record {
      carried = (
        so_far.0 ++ take n left,
        more_front c.args.piece.now so_far.0 left n so_far.1 ∙ ap (λ x. (so_far.0 ++ take n left) ++ x) (sym (take_rest left n)),
        carried-line g.F.Follower.going c.laws.ensures.in_turn c.args.lines.now c.lines.lines c.feed-count.new.self c.carry_out_line.new.lines c.args.follower.now c.lines.follower c.carry_out_line.new.follower so_far.0
            (take n left) _ _ _ so_far.2 c.feed-count.ensures.read c.feed-count.ensures.ended c.in_ok-carry_out_line.ensures.ok,
      );
      no_whole = c.in_ok-carry_out_line.ensures.no_whole;
      unfinished = c.carry_out_line.ensures.finished ∙ ap (λ (k : Kept). k.is_finished) c.feed-count.ensures.fed ∙ c.lines.invariant.unfinished;
      counted = omega (
        arith,
        ap length (take_rest left n),
        length-drop n left,
        c.feed-count.ensures.count,
        taken_within left,
        taken_some left some,
        ap (λ (k : Kept). k.lines) c.feed-count.ensures.fed,
        c.carry_out_line.ensures.counted,
        c.lines.invariant.counted,
      );
      later = omega (arith, c.carry_out_line.ensures.later);
    }

pub returns-clause-ok : goal.returns-clause-ok
returns-clause-ok g c =
    let so_far = c.lines.invariant.carried in
    let all : c.args.piece.now ≡ so_far.0 =
    so_far.1 ∙ ap (λ x. so_far.0 ++ x) (none_left c.is_empty.result c.lines.left.now c.is_empty.ensures c.lines-test.false) ∙ append_nil so_far.0 in
    subst (λ piece. Carried g.F.Follower.going c.args.lines.now c.args.follower.now piece c.lines.lines c.lines.follower (g.K.Sink.taken c.args.sink.now) (g.K.Sink.taken c.lines.sink)) (sym all) so_far.2
