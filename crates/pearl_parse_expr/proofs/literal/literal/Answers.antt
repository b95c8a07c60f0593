-- A literal is a duration, or else one token.
use Rattle.std.proofs.Common.{refl, inl, rules}
use Rattle.pearl_tree.specs.Expressions.{SpellsDuration, SpellsLiteral}
use Rattle.pearl_parse_expr.proofs.Durations.{literal_reaches}
use Rattle.pearl_parse_expr.proofs.Literals.{one_token, no_literal, literal_longest}
use Rattle.pearl_parse_expr.proofs.Local.{duration_far}
use Rattle.pearl_parse_expr.proofs.Reaching.{goes_as, halts_as}
use Rattle.pearl_parse_expr.proofs.literal.literal.Goals as goal

pub returns-in-Some-clause-reads : goal.returns-in-Some-clause-reads
returns-in-Some-clause-reads c =
    let refused = c.in-Err.ensures.reads.refused in
    record {
      spells = search rules;
      longest = λ others agree x to h.
          inl (one_token c.args.tokens.now c.args.from c.in-Err.halt refused c.in-Err.ensures.close others agree x to
          h);
      ahead = search rules;
      refused = tt;
      least = record { goes = inl refl };
    }

pub returns-in_ok-boxed-in-Ok-clause-reads : goal.returns-in_ok-boxed-in-Ok-clause-reads
returns-in_ok-boxed-in-Ok-clause-reads c =
    let tokens = c.args.tokens.now in
    let from = c.args.from in
    let duration = c.in-Ok.duration in
    let read = c.in-Ok.ensures.reads in
    record {
      spells = search rules;
      longest = literal_longest tokens from duration.end duration.stop duration.part read.spells
          (duration_far tokens tokens 0 (λ j below. refl) from duration.part duration.end read.spells) read.ahead.1
          read.longest;
      ahead = read.ahead;
      refused = tt;
      least = goes_as SpellsDuration SpellsLiteral tokens from from duration.end duration.stop
          (λ r. literal_reaches tokens from duration.stop r) read.least;
    }

pub returns-in-None-clause-reads : goal.returns-in-None-clause-reads
returns-in-None-clause-reads c =
    let tokens = c.args.tokens.now in
    let from = c.args.from in
    let read = c.in-Err.ensures.reads in
    record {
      spells = tt;
      longest = tt;
      ahead = tt;
      refused = no_literal tokens from c.in-Err.halt (search rules) read.refused;
      least = halts_as SpellsDuration SpellsLiteral tokens from from c.in-Err.halt
          (λ stop near within r. literal_reaches tokens from stop r) read.refused read.least;
    }
