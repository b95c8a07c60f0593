-- What `bracketed` answers: no bracket opens a list, no list is read, no bracket closes it, or it is read.
use Rattle.std.proofs.Common.{rules, refl}
use Rattle.pearl_tree.specs.Standing.{SpellsList}
use Rattle.pearl_parse_expr.proofs.Offered.{residual}
use Rattle.pearl_parse_decl.proofs.Behind.{list_is_read, none_only, part_closed, part_unclosed, part_unread}
use Rattle.pearl_parse_decl.proofs.ListReach.{bracketed_holds, list_is_local}
use Rattle.pearl_parse_decl.proofs.list.bracketed.Goals as goal

pub returns-then-not-is_symbol : goal.returns-then-not-is_symbol
returns-then-not-is_symbol g c = none_only (search rules)
    (g.met.P.Readable.begins c.args.tokens.now c.args.from c.requires)

pub returns-in_err-inner : goal.returns-in_err-inner
returns-in_err-inner g c =
    rw (residual c.in_err-inner.field-0.0 c.from_residual.result c.from_residual.ensures)
    (let read = c.in_err-inner.ensures in
    part_unread (bracketed_holds g.P.Readable.spelling read.contained c.args.tokens.now c.args.from
    (c.if-not-is_symbol.ensures.stands refl)) (search rules) read.reads.refused read.reads.least)

pub returns-then-not-is_symbol-2 : goal.returns-then-not-is_symbol-2
returns-then-not-is_symbol-2 g c =
    let read = c.in_ok-inner.ensures in
    part_unclosed (bracketed_holds g.P.Readable.spelling read.contained c.args.tokens.now c.args.from
    (c.if-not-is_symbol.ensures.stands refl))
    (list_is_read (λ tokens. SpellsList tokens (g.P.Readable.spelling tokens)) read.reads)
    (list_is_local g.P.Readable.spelling read.contained) (search rules)

pub returns : goal.returns
returns g c =
    let read = c.in_ok-inner.ensures in
    rw c.past.ensures (part_closed (bracketed_holds g.P.Readable.spelling read.contained c.args.tokens.now c.args.from
    (c.if-not-is_symbol.ensures.stands refl))
    (list_is_read (λ tokens. SpellsList tokens (g.P.Readable.spelling tokens)) read.reads)
    (list_is_local g.P.Readable.spelling read.contained) refl (search rules) (search rules) (search rules))
