use Rattle.std.proofs.Common.{[], ap, ◌∙◌, arith}
use Rattle.std.proofs.lemmas.Result.{err_from_is_err_and}
use Rattle.pearl_io.specs.Outside.{CountRose, WriteFailed}
use Rattle.pearl_io.proofs.Offered.{failed_since}
use Rattle.pearl_journal.specs.Lines.{journal_lines}
use Rattle.pearl_journal.specs.Pieces.{reading_at}
use Rattle.pearl_top.specs.JournalDue.{JournalDue}
use Rattle.pearl_top.proofs.Explained.{explained, may_have}
use Rattle.pearl_top.proofs.ReplayEnds.{leaves_closed, leaves_failed, leaves_unclosed, leaves_unopened}
use Rattle.pearl_top.proofs.replay.replay.Goals as goal

pub returns-in_err-open-clause-ends : goal.returns-in_err-open-clause-ends
returns-in_err-open-clause-ends g c =
    let held = g.S.Shelf.holds c.args.shelf.now in
    let name = c.args.journal.now in
    let rose : Type 0 = CountRose (g.S.Shelf.faults c.args.shelf.now name) (g.S.Shelf.faults c.args.shelf.now name) in
    let failed : Type 0 = WriteFailed (g.K.Sink.faults c.args.sink.now) (g.K.Sink.faults c.open.new.sink) (g.K.Sink.full c.open.new.sink) in
    let e = err_from_is_err_and c.from_residual.result c.from_residual.ensures.1 in (
      explained held name [],
      may_have held name [],
      rw (e.1, e.2) (leaves_unopened g.F.Follower.going c.laws.ensures.in_turn c.laws.ensures.run c.args.follower.now c.requires.starts (explained held name []) rose failed _ _
          c.in_err-open.ensures.cause c.in_err-open.ensures.err),
    )

pub returns-in_err-carry_out-clause-ends : goal.returns-in_err-carry_out-clause-ends
returns-in_err-carry_out-clause-ends g c =
    let name = c.args.journal.now in
    let rose : Type 0 = CountRose (g.S.Shelf.faults c.args.shelf.now name) (g.S.Shelf.faults c.carry_out.new.shelf name) in
    let ends = c.in_err-carry_out.ensures.ends in
    let e = err_from_is_err_and c.from_residual-in_err-carry_out.result c.from_residual-in_err-carry_out.ensures.1 in (
      ends.0,
      ends.1,
      rw (e.1, e.2) (leaves_failed g.F.Follower.going c.laws.ensures.in_turn c.laws.ensures.run c.args.follower.now c.requires.starts c.open.new.self
          (reading_at c.args.lines.now (g.F.Follower.going.moment c.open.new.self)) _ _ c.in_ok-open.ensures.goes
          (ap (reading_at c.args.lines.now) c.in_ok-open.ensures.moment ∙ c.requires.first) c.in_ok-open.ensures.ok ends.0 rose _ _ c.carry_out.new.follower _
          c.in_err-carry_out.field-0.0 (failed_since _ _ _ _ c.open.ensures.later) ends.2),
    )

pub returns-in_err-finish-clause-ends : goal.returns-in_err-finish-clause-ends
returns-in_err-finish-clause-ends g c =
    let name = c.args.journal.now in
    let rose : Type 0 = CountRose (g.S.Shelf.faults c.args.shelf.now name) (g.S.Shelf.faults c.carry_out.new.shelf name) in
    let ends = c.in_ok-carry_out.ensures.ends in
    let last = c.in_err-finish.ensures.err in
    let e = err_from_is_err_and c.from_residual-in_err-finish.result c.from_residual-in_err-finish.ensures.1 in (
      ends.0,
      ends.1,
      rw (e.1, e.2) (
        failed_since (g.K.Sink.faults c.args.sink.now) (g.K.Sink.faults c.carry_out.new.sink) _ _
            (omega (arith, c.open.ensures.later, c.carry_out.ensures.sink_later)) c.in_err-finish.ensures.cause,
        leaves_unclosed g.F.Follower.going c.laws.ensures.in_turn c.laws.ensures.run c.args.follower.now c.requires.starts c.open.new.self
            (reading_at c.args.lines.now (g.F.Follower.going.moment c.open.new.self)) _ _ c.in_ok-open.ensures.goes
            (ap (reading_at c.args.lines.now) c.in_ok-open.ensures.moment ∙ c.requires.first) c.in_ok-open.ensures.ok (journal_lines ends.0) c.carry_out.new.follower last.0 _ _
            (JournalDue (g.F.Follower.going.runner c.args.follower.now) ends.0 rose) ends.2.1 last.1 last.2 (λ bytes run. (ends.2.0, run)),
      ),
    )

pub returns-clause-ends : goal.returns-clause-ends
returns-clause-ends g c =
    let name = c.args.journal.now in
    let rose : Type 0 = CountRose (g.S.Shelf.faults c.args.shelf.now name) (g.S.Shelf.faults c.carry_out.new.shelf name) in
    let ends = c.in_ok-carry_out.ensures.ends in
    let last = c.in_ok-finish.ensures.ok in (
      ends.0,
      ends.1,
      leaves_closed g.F.Follower.going c.laws.ensures.in_turn c.laws.ensures.run c.args.follower.now c.requires.starts c.open.new.self
          (reading_at c.args.lines.now (g.F.Follower.going.moment c.open.new.self)) _ _ c.in_ok-open.ensures.goes
          (ap (reading_at c.args.lines.now) c.in_ok-open.ensures.moment ∙ c.requires.first) c.in_ok-open.ensures.ok (journal_lines ends.0) c.carry_out.new.follower last.0 _ _
          (JournalDue (g.F.Follower.going.runner c.args.follower.now) ends.0 rose) ends.2.1 last.1 last.2 (λ bytes run. (ends.2.0, run)),
    )

pub finish-requires : goal.finish-requires
finish-requires g c = c.in_ok-carry_out.ensures.ends.2.1.rests
