use Rattle.std.proofs.lemmas.Result.{err_from_is_err_and}
use Rattle.pearl_top.proofs.LineLaws.{carried-entry, carried-nothing, cut-entry, fails-bad, fits_there}
use Rattle.pearl_top.proofs.replay.carry_out_line.Goals as goal

pub returns-in_err-entry-clause-err : goal.returns-in_err-entry-clause-err
returns-in_err-entry-clause-err g c =
    let p = err_from_is_err_and c.from_residual.result c.from_residual.ensures.1 in
    rw (p.1, p.2) (fails-bad g.F.Follower.going c.laws.ensures.in_turn c.args.lines.now c.entry.new.self c.args.follower.now c.in_err-entry.field-0.0 c.tables.result.now
    c.moment.result _ ⊥ c.requires.rests c.tables.ensures.value c.moment.ensures c.in_err-entry.ensures.read c.in_err-entry.ensures.ended)

pub follow-requires-clause-fits : goal.follow-requires-clause-fits
follow-requires-clause-fits g c =
    fits_there _ _ c.moment.result (g.F.Follower.going.moment c.args.follower.now) c.in_ok-entry.field-0 c.in-Entry.entry c.tables.ensures.value c.moment.ensures c.in-Entry.is
    c.in_ok-entry.ensures.fits

pub returns-in_ok-follow-in-Entry-clause-ok : goal.returns-in_ok-follow-in-Entry-clause-ok
returns-in_ok-follow-in-Entry-clause-ok g c =
    let done = c.in_ok-follow-in-Entry.ensures.ok in
    carried-entry g.F.Follower.going c.laws.ensures.in_turn c.args.lines.now c.entry.new.self c.args.follower.now c.follow.new.self c.in_ok-entry.field-0 c.in-Entry.entry
    done.0 c.tables.result.now c.moment.result _ _ c.tables.ensures.value c.moment.ensures c.in-Entry.is c.in_ok-entry.ensures.read c.in_ok-entry.ensures.ended
    c.in_ok-follow-in-Entry.ensures.moment done.1 c.in_ok-follow-in-Entry.ensures.rests done.2

pub returns-in_err-follow-in-Entry-clause-err : goal.returns-in_err-follow-in-Entry-clause-err
returns-in_err-follow-in-Entry-clause-err g c =
    let cut = c.in_err-follow-in-Entry.ensures.err in
    let p = err_from_is_err_and c.from_residual-in_err-follow-in-Entry.result c.from_residual-in_err-follow-in-Entry.ensures.1 in
    rw (p.1, p.2) (
      c.in_err-follow-in-Entry.ensures.cause,
      cut-entry g.F.Follower.going c.laws.ensures.in_turn c.args.lines.now c.entry.new.self c.args.follower.now c.follow.new.self c.in_ok-entry.field-0 c.in-Entry.entry cut.1 cut.0
          c.tables.result.now c.moment.result _ _ c.tables.ensures.value c.moment.ensures c.in-Entry.is c.in_ok-entry.ensures.read c.in_ok-entry.ensures.ended cut.2 cut.3,
    )

pub returns-in-Blank-clause-ok : goal.returns-in-Blank-clause-ok
returns-in-Blank-clause-ok g c =
    carried-nothing g.F.Follower.going c.laws.ensures.in_turn c.args.lines.now c.entry.new.self c.args.follower.now c.tables.result.now c.moment.result c.in_ok-entry.field-0 _ c.requires.rests
    c.tables.ensures.value c.moment.ensures c.in-Blank.is c.in_ok-entry.ensures.read c.in_ok-entry.ensures.ended
