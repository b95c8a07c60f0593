-- What `maybe_headed` answers: the word with a list in brackets stands there, or doesn't.
use Rattle.std.proofs.Common.{rules, ◌+◌, ◌<◌, inl, refl, sym, arith}
use Rattle.pearl_tree.specs.Standing.{SpellsBracketed, SpellsMaybeHeaded}
use Rattle.pearl_parse_expr.specs.Stops.{is_word}
use Rattle.pearl_parse_expr.proofs.Offered.{stuck_of, goes, goes_as, reached_halt}
use Rattle.pearl_parse_decl.proofs.ListReach.{maybe_headed_reaches, maybe_list_none}
use Rattle.pearl_parse_decl.proofs.Lists.{headed_is_longest, headed_is_none}
use Rattle.pearl_parse_decl.proofs.list.maybe_headed.Goals as goal

pub returns-in-Ok-clause-reads : goal.returns-in-Ok-clause-reads
returns-in-Ok-clause-reads g c =
    let list = c.in-Ok.list in
    let read = c.in-Ok.ensures in
    let near : c.args.from < list.stop = omega (arith, read.ahead) in
    record {
      spells = search rules;
      longest = headed_is_longest g.P.Readable.spelling c.args.tokens.now c.args.from c.args.word
          list.end list.stop (omega (arith, read.ahead)) (omega arith)
          (sym c.if-not-is_word.ensures.value) read.only;
      bounds = search rules;
      refused = tt;
      least = goes_as (λ tokens. SpellsBracketed tokens (g.P.Readable.spelling tokens))
          (λ tokens. SpellsMaybeHeaded tokens c.args.word (g.P.Readable.spelling tokens)) c.args.tokens.now c.args.from
          (c.args.from + 1) list.end list.stop
          (maybe_headed_reaches g.P.Readable.spelling c.args.tokens.now c.args.from list.stop c.args.word
          (c.if-not-is_word.ensures.stands refl) near) read.least;
    }

pub returns-in-Refused-clause-reads : goal.returns-in-Refused-clause-reads
returns-in-Refused-clause-reads g c =
    let stop = c.in-Refused.stop in
    let none = stuck_of (λ tokens. SpellsBracketed tokens (g.P.Readable.spelling tokens)) c.args.tokens.now
    (c.args.from + 1) stop c.in-Err.halt c.in-Refused.is c.in-Err.ensures.refused in
    let near : c.args.from < stop = omega (arith, none.1) in
    maybe_list_none (λ tokens. SpellsMaybeHeaded tokens c.args.word (g.P.Readable.spelling tokens))
    (is_word c.args.word) c.args.tokens.now c.args.from stop c.none-in-Refused.ensures refl
    (headed_is_none g.P.Readable.spelling c.args.tokens.now c.args.from c.args.word stop none.0)
    (omega arith, omega arith, omega arith, none.2)
    (goes (λ tokens. SpellsMaybeHeaded tokens c.args.word (g.P.Readable.spelling tokens)) c.args.tokens.now c.args.from
    c.args.from stop
    (maybe_headed_reaches g.P.Readable.spelling c.args.tokens.now c.args.from stop c.args.word
    (c.if-not-is_word.ensures.stands refl) near
    (reached_halt (λ tokens. SpellsBracketed tokens (g.P.Readable.spelling tokens)) c.args.tokens.now (c.args.from + 1)
    stop c.in-Err.halt c.in-Refused.is c.in-Err.ensures.least)))

pub returns-then-not-is_word-clause-reads : goal.returns-then-not-is_word-clause-reads
returns-then-not-is_word-clause-reads g c =
    maybe_list_none (λ tokens. SpellsMaybeHeaded tokens c.args.word (g.P.Readable.spelling tokens))
    (is_word c.args.word) c.args.tokens.now c.args.from c.args.from c.none.ensures refl (search rules) (search rules)
    (record { goes = inl refl })
