-- One operator more is read behind those that were read, or none.
use Rattle.std.proofs.Common.{inl, inr, refl, arith}
use Rattle.pearl_parse_expr.proofs.Lists.{listed}
use Rattle.pearl_parse_expr.proofs.Loops.{MonadicsRead, monadics_none, monadics_more, monadics_read}
use Rattle.pearl_parse_expr.proofs.operator.monadics.Goals as goal

pub each-init : goal.each-init
each-init c =
    listed (MonadicsRead c.args.tokens.now c.args.from) c.none-list.ensures
    (monadics_none c.args.tokens.now c.args.from c.requires)

pub each-preserved : goal.each-preserved
each-preserved c =
    let list = c.each.list in
    listed (MonadicsRead c.args.tokens.now c.args.from) c.in_ok-add-in-Some.ensures.added
    (monadics_more c.args.tokens.now c.args.from list.part.items list.end list.stop c.in-Some.part c.each.invariant
    (omega (arith, c.len.ensures, list.part.ok.0)) c.in-Some.ensures.within c.in-Some.ensures.some)

pub returns-in-None-clause-reads : goal.returns-in-None-clause-reads
returns-in-None-clause-reads c =
    monadics_read c.args.tokens.now c.args.from c.each.list c.each.invariant (inr (c.in-None.ensures.none refl))

pub returns-clause-reads : goal.returns-clause-reads
returns-clause-reads c =
    let list = c.each.list in
    monadics_read c.args.tokens.now c.args.from list c.each.invariant
    (inl (omega (arith, c.each.invariant.spells.0, c.len.ensures, list.part.ok.0)))
