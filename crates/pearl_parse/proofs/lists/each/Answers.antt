-- That as many parts are read as begin here, one after the other.
use Rattle.std.proofs.Common.{refl, arith}
use Rattle.pearl_parse_expr.specs.Readings.{ended}
use Rattle.pearl_parse_expr.proofs.Offered.{listed}
use Rattle.pearl_parse.proofs.EachReads.{EachRead, each_none, each_more, each_ended, each_maybe}
use Rattle.pearl_parse.proofs.lists.each.Goals as goal

pub each-init : goal.each-init
each-init g c =
    let part = g.P.Repeated.spelling in
    let begins = g.P.Repeated.begins in
    let tokens = c.args.tokens.now in
    let from = c.args.from in
    listed (EachRead part begins tokens from from) c.none-list.ensures
    (each_none part begins tokens from from (omega arith) c.requires)

pub each-preserved : goal.each-preserved
each-preserved g c =
    let part = g.P.Repeated.spelling in
    let begins = g.P.Repeated.begins in
    let tokens = c.args.tokens.now in
    let from = c.args.from in
    let list = c.each.list in
    listed (EachRead part begins tokens from from) c.in_ok-add-in-Ok.ensures.added
    (each_more part begins tokens from from c.in-Ok.ensures.contained g.met.P.Repeated.first list.part.items list.end
    list.stop c.each.invariant c.in-Ok.next c.in-Ok.ensures.reads)

pub returns-in-Err-clause-reads : goal.returns-in-Err-clause-reads
returns-in-Err-clause-reads g c =
    let part = g.P.Repeated.spelling in
    let begins = g.P.Repeated.begins in
    let tokens = c.args.tokens.now in
    let from = c.args.from in
    let list = c.each.list in
    let halt = c.in-Err.halt in
    rw c.ended.ensures.value (each_maybe part begins tokens from from (ended list halt) refl
    (each_ended part begins tokens from from c.in-Err.ensures.contained list c.each.invariant halt
    c.in-Err.ensures.reads))
