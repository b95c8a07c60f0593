-- A stop as a number of a token is told as its place: some expression goes on so far, and none further.
use Rattle.std.proofs.Common.{◌≤◌, length, refl, sym, ◌∙◌, arith}
use Rattle.pearl_tree.specs.Expressions as grammar
use Rattle.pearl_parse_expr.proofs.PastEnd.{no_token, no_place, no_expression}
use Rattle.pearl_parse_expr.specs.Stops as spec
use Rattle.pearl_parse_expr.proofs.Halts.{stuck_of}
use Rattle.pearl_parse_expr.proofs.OneStop.{none_goes_on}
use Rattle.pearl_parse_expr.proofs.Reaching.{reached_halt}
use Rattle.pearl_parse_expr.proofs.Joining.{goes_on, goes_on_past, expr_reach, ends_within}
use Rattle.pearl_parse_expr.proofs.expression.expression.Goals as goal

pub returns-then-from-tokens-clause-refused : goal.returns-then-from-tokens-clause-refused
returns-then-from-tokens-clause-refused c =
    let tokens = c.args.tokens.now in
    let from = c.args.from in
    let past : length tokens ≤ from = omega (arith, c.if-from-tokens.true) in (
      no_expression tokens 32 from (no_token tokens from past),
      record {
        token = from;
        stands = sym (no_place tokens from past);
        on = omega arith;
        none = λ expr to others agree h. absurd (no_expression others 32 from
            (sym (agree from (omega arith) (omega arith)) ∙ no_token tokens from past) expr to h);
        some = goes_on_past tokens from;
      },
    )

pub returns-in-Ok-clause-stop : goal.returns-in-Ok-clause-stop
returns-in-Ok-clause-stop c =
    let reading = c.in-Ok.reading in
    let read = c.in-Ok.ensures in
    let near : reading.end ≤ reading.stop = omega (arith, read.ahead) in
    record {
      token = reading.stop;
      stands = c.stop_place.ensures;
      on = omega (arith, read.ahead);
      none = none_goes_on c.args.tokens.now c.args.from reading.stop (omega (arith, c.if-from-tokens.false))
          (λ others agree expr to h. ends_within spec.extends_expression others reading.end reading.stop to near
          (read.longest others agree expr to h));
      some = goes_on c.args.tokens.now c.args.from reading.stop
          (expr_reach c.args.tokens.now 32 c.args.from reading read);
    }

pub returns-in-Refused-clause-refused : goal.returns-in-Refused-clause-refused
returns-in-Refused-clause-refused c =
    let tokens = c.args.tokens.now in
    let from = c.args.from in
    let stop = c.in-Refused.stop in
    let stuck = stuck_of (λ tokens. grammar.SpellsExpr tokens 32) tokens from stop c.in-Err.halt c.in-Refused.is
    c.in-Err.ensures.refused in (
      λ expr to h. stuck.0 tokens (λ j within. refl) expr to h,
      record {
        token = stop;
        stands = c.stop_place-in-Refused.ensures;
        on = stuck.1;
        none = none_goes_on tokens from stop (omega (arith, c.if-from-tokens.false))
            (λ others agree expr to h. absurd (stuck.0 others agree expr to h));
        some = goes_on tokens from stop (reached_halt (λ tokens. grammar.SpellsExpr tokens 32) tokens from stop
            c.in-Err.halt c.in-Refused.is c.in-Err.ensures.least);
      },
    )
