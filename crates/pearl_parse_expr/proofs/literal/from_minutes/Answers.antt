-- Behind a number of minutes stand seconds, or the duration ends.
use Rattle.std.proofs.Common.{◌+◌, arith, rules}
use Rattle.pearl_tree.specs.Expressions.{SpellsSeconds, SpellsDuration}
use Rattle.pearl_parse_expr.proofs.Durations.{from_minutes_reaches}
use Rattle.pearl_parse_expr.proofs.Reaching.{goes_as}
use Rattle.pearl_parse_expr.proofs.literal.from_minutes.Goals as goal

pub returns : goal.returns
returns c =
    let tokens = c.args.tokens.now in
    let from = c.args.from in
    let seconds = c.seconds_at-seconds in
    let stop = seconds.result.stop in
    let read = seconds.ensures.reads in
    record {
      spells = search rules;
      longest = search rules;
      ahead = search rules;
      refused = tt;
      least = goes_as SpellsSeconds SpellsDuration tokens from (from + 2) seconds.result.end stop
          (λ r. from_minutes_reaches tokens from stop c.args.minutes c.requires.number c.requires.word
          (omega (arith, read.bounds)) r) read.least;
    }
