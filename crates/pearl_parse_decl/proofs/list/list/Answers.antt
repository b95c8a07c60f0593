-- What `list` answers: no part stands there, the list so far, the list with one part more, or the whole list.
use Rattle.std.proofs.Common.{refl, sym}
use Rattle.pearl_parse_expr.proofs.Offered.{listed, ListRead, list_first, list_more, list_done, list_ended, list_none}
use Rattle.pearl_parse_expr.proofs.Offered.{residual}
use Rattle.pearl_parse_decl.proofs.list.list.Goals as goal

pub each-init : goal.each-init
each-init g c =
    let read = c.in_ok-first.ensures in
    listed (ListRead g.P.Readable.spelling g.P.Readable.extends c.args.tokens.now c.args.from)
    c.in_ok-list.ensures.list
    (list_first g.P.Readable.spelling g.P.Readable.extends read.contained g.met.P.Readable.stops_at_comma
    c.args.tokens.now c.args.from c.in_ok-first.first read.reads)

pub each-preserved : goal.each-preserved
each-preserved g c =
    let list = c.each.list in
    let read = c.in-Ok.ensures in
    listed (ListRead g.P.Readable.spelling g.P.Readable.extends c.args.tokens.now c.args.from)
    c.in_ok-add-in-Ok.ensures.added
    (list_more g.P.Readable.spelling g.P.Readable.extends read.contained g.met.P.Readable.stops_at_comma
    c.args.tokens.now c.args.from list.part.items list.end list.stop c.in-Ok.next c.each.invariant
    (c.each-test.ensures.stands refl) read.reads)

pub returns-in-Err-clause-reads : goal.returns-in-Err-clause-reads
returns-in-Err-clause-reads g c =
    let read = c.in-Err.ensures in
    rw c.ended.ensures.value (list_ended g.P.Readable.spelling g.P.Readable.extends read.contained c.args.tokens.now
    c.args.from c.each.list c.in-Err.halt c.each.invariant (c.each-test.ensures.stands refl) read.reads)

pub returns-clause-reads : goal.returns-clause-reads
returns-clause-reads g c =
    list_done g.P.Readable.spelling g.P.Readable.extends c.args.tokens.now c.args.from c.each.list c.each.invariant
    (sym c.each-test.ensures.value)

pub returns-in_err-first-clause-reads : goal.returns-in_err-first-clause-reads
returns-in_err-first-clause-reads g c =
    rw (residual c.in_err-first.field-0.0 c.from_residual.result c.from_residual.ensures)
    (let read = c.in_err-first.ensures in
    list_none g.P.Readable.spelling g.P.Readable.extends read.contained c.args.tokens.now c.args.from
    c.in_err-first.field-0.0
    read.reads)
