-- Seconds are read with their word, or none are, as far as the first token that is missing.
use Rattle.std.proofs.Common.{inr, refl, arith, rules}
use Rattle.pearl_parse_expr.proofs.Durations.{seconds_reach}
use Rattle.pearl_parse_expr.proofs.literal.seconds_at.Goals as goal

pub returns-else-is_word-clause-reads : goal.returns-else-is_word-clause-reads
returns-else-is_word-clause-reads c = record {
  spells = refl;
  longest = search rules;
  bounds = search rules;
  refused = tt;
  least = record {
    goes = inr (seconds_reach c.args.tokens.now c.args.at c.in-Some.secs c.in-Some.ensures.some
        (omega (arith, c.in-Some.ensures.within)));
  };
}
