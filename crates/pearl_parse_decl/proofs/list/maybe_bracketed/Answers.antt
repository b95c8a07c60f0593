-- What `maybe_bracketed` answers: a list in brackets stands there, or doesn't.
use Rattle.std.proofs.Common.{rules, refl, arith}
use Rattle.pearl_tree.specs.Standing.{SpellsBracketed, SpellsMaybeBracketed}
use Rattle.pearl_parse_decl.specs.Readings.{by_bracket}
use Rattle.pearl_parse_expr.proofs.Offered.{stuck_of, goes, goes_as, reached_halt}
use Rattle.pearl_parse_decl.proofs.ListReach.{maybe_bracketed_reaches, maybe_list_none}
use Rattle.pearl_parse_decl.proofs.Lists.{maybe_is_longest, maybe_is_none}
use Rattle.pearl_parse_decl.proofs.list.maybe_bracketed.Goals as goal

pub returns-in-Ok-clause-reads : goal.returns-in-Ok-clause-reads
returns-in-Ok-clause-reads g c =
    let list = c.in-Ok.list in
    let read = c.in-Ok.ensures in
    record {
      spells = search rules;
      longest = maybe_is_longest g.P.Readable.spelling c.args.tokens.now c.args.from list.end
          list.stop read.ahead.0 (omega (arith, read.ahead)) read.spells.1 read.only;
      bounds = search rules;
      refused = tt;
      least = goes_as (λ tokens. SpellsBracketed tokens (g.P.Readable.spelling tokens))
          (λ tokens. SpellsMaybeBracketed tokens (g.P.Readable.spelling tokens)) c.args.tokens.now c.args.from
          c.args.from
          list.end list.stop (maybe_bracketed_reaches g.P.Readable.spelling c.args.tokens.now c.args.from list.stop)
          read.least;
    }

pub returns-in-Refused-clause-reads : goal.returns-in-Refused-clause-reads
returns-in-Refused-clause-reads g c =
    let stop = c.in-Refused.stop in
    let none = stuck_of (λ tokens. SpellsBracketed tokens (g.P.Readable.spelling tokens)) c.args.tokens.now c.args.from
    stop c.in-Err.halt c.in-Refused.is c.in-Err.ensures.refused in
    maybe_list_none (λ tokens. SpellsMaybeBracketed tokens (g.P.Readable.spelling tokens)) by_bracket c.args.tokens.now
    c.args.from stop c.none.ensures refl
    (maybe_is_none g.P.Readable.spelling c.args.tokens.now c.args.from stop none.0)
    (omega arith, none.1, none.1, none.2)
    (goes (λ tokens. SpellsMaybeBracketed tokens (g.P.Readable.spelling tokens)) c.args.tokens.now c.args.from
    c.args.from stop
    (maybe_bracketed_reaches g.P.Readable.spelling c.args.tokens.now c.args.from stop
    (reached_halt (λ tokens. SpellsBracketed tokens (g.P.Readable.spelling tokens)) c.args.tokens.now c.args.from stop
    c.in-Err.halt c.in-Refused.is c.in-Err.ensures.least)))
