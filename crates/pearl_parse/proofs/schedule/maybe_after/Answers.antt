-- That an expression is read behind a word where the word stands.
use Rattle.std.proofs.Common.{rules, arith, Some}
use Rattle.pearl_parse_expr.proofs.Offered.{residual, reading_is}
use Rattle.pearl_parse.proofs.Comes.{Maybe}
use Rattle.pearl_parse.proofs.ScheduleMade.{After}
use Rattle.pearl_parse.proofs.States.{some_reaches, told_none, told_as, halts_behind_as}
use Rattle.pearl_parse.proofs.schedule.maybe_after.Goals as goal

pub returns-then-not-is_word : goal.returns-then-not-is_word
returns-then-not-is_word c =
    record {
      spells = search rules;
      longest = search rules;
      bounds = search rules;
      refused = tt;
      least = told_none 8 (Maybe (After c.args.word)) c.args.tokens.now c.args.from c.args.least_stop c.max.result
          (omega (arith, c.max.ensures));
    }

pub returns : goal.returns
returns c =
    let tokens = c.args.tokens.now in
    let from = c.args.from in
    rw (reading_is c.map.result (Some c.in_ok-after.field-0.part) c.in_ok-after.field-0.end c.in_ok-after.field-0.stop
    (search rules) (search rules) (search rules))
    (record {
      spells = search rules;
      longest = search rules;
      bounds = search rules;
      refused = tt;
      least = told_as 8 8 (After c.args.word) (Maybe (After c.args.word)) tokens from from (omega arith)
          (some_reaches 8 (After c.args.word) tokens from) c.args.least_stop c.in_ok-after.field-0.end
          c.in_ok-after.field-0.stop
          (omega (arith, c.in_ok-after.ensures.bounds)) c.in_ok-after.ensures.least;
    })

pub returns-in_err-after : goal.returns-in_err-after
returns-in_err-after c =
    rw (residual c.in_err-after.field-0.0 c.from_residual.result c.from_residual.ensures)
    (let tokens = c.args.tokens.now in
    let from = c.args.from in
    record {
      spells = tt;
      longest = tt;
      bounds = tt;
      refused = search rules;
      least = halts_behind_as 8 8 (After c.args.word) (Maybe (After c.args.word)) tokens from from (omega arith)
          (some_reaches 8 (After c.args.word) tokens from) c.args.least_stop c.in_err-after.field-0.0
          c.in_err-after.ensures.least;
    })
