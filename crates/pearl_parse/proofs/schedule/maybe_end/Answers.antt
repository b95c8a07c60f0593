-- That the end of a period is read where UNTIL or DURING stands.
use Rattle.std.proofs.Common.{rules, arith, Some}
use Rattle.pearl_tree.specs.Statements.{SpellsPeriodEnd}
use Rattle.pearl_tree.specs.declared.word_code.TheConstants as w
use Rattle.pearl_parse_expr.proofs.Offered.{residual, reading_is}
use Rattle.pearl_tree.specs.declared.statement.PeriodEnd.TheVariants as period_end
use Rattle.pearl_parse.proofs.Comes.{Maybe}
use Rattle.pearl_parse.proofs.ScheduleMade.{After}
use Rattle.pearl_parse.proofs.ScheduleLeast.{until_reaches, during_reaches}
use Rattle.pearl_parse.proofs.States.{told_as, halts_behind_as}
use Rattle.pearl_parse.proofs.schedule.maybe_end.Goals as goal

pub returns-then-is_word-clause-reads : goal.returns-then-is_word-clause-reads
returns-then-is_word-clause-reads c =
    let tokens = c.args.tokens.now in
    let from = c.args.from in
    let time = c.in_ok-time.time in
    rw (reading_is c.map.result (Some (period_end.Until time.part c.place_at-place.result)) time.end time.stop (search rules)
    (search rules) (search rules))
    (record {
      spells = search rules;
      longest = search rules;
      bounds = search rules;
      refused = tt;
      least = told_as 8 8 (After w.UNTIL) (Maybe SpellsPeriodEnd) tokens from from (omega arith)
          (until_reaches tokens from) c.args.least_stop time.end time.stop (omega (arith, c.in_ok-time.ensures.bounds))
          c.in_ok-time.ensures.least;
    })

pub returns-in_err-time-clause-reads : goal.returns-in_err-time-clause-reads
returns-in_err-time-clause-reads c =
    rw (residual c.in_err-time.field-0.0 c.from_residual.result c.from_residual.ensures)
    (let tokens = c.args.tokens.now in
    let from = c.args.from in
    record {
      spells = tt;
      longest = tt;
      bounds = tt;
      refused = search rules;
      least = halts_behind_as 8 8 (After w.UNTIL) (Maybe SpellsPeriodEnd) tokens from from (omega arith)
          (until_reaches tokens from) c.args.least_stop c.in_err-time.field-0.0 c.in_err-time.ensures.least;
    })

pub returns-then-is_word-2-clause-reads : goal.returns-then-is_word-2-clause-reads
returns-then-is_word-2-clause-reads c =
    let tokens = c.args.tokens.now in
    let from = c.args.from in
    let duration = c.in_ok-duration.duration in
    rw (reading_is c.map-then-is_word-2.result (Some (period_end.During duration.part c.place_at-place-then-is_word-2.result))
    duration.end duration.stop (search rules) (search rules) (search rules))
    (record {
      spells = search rules;
      longest = search rules;
      bounds = search rules;
      refused = tt;
      least = told_as 8 8 (After w.DURING) (Maybe SpellsPeriodEnd) tokens from from (omega arith)
          (during_reaches tokens from) c.args.least_stop duration.end duration.stop
          (omega (arith, c.in_ok-duration.ensures.bounds)) c.in_ok-duration.ensures.least;
    })

pub returns-in_err-duration-clause-reads : goal.returns-in_err-duration-clause-reads
returns-in_err-duration-clause-reads c =
    rw (residual c.in_err-duration.field-0.0 c.from_residual-in_err-duration.result
    c.from_residual-in_err-duration.ensures)
    (let tokens = c.args.tokens.now in
    let from = c.args.from in
    record {
      spells = tt;
      longest = tt;
      bounds = tt;
      refused = search rules;
      least = halts_behind_as 8 8 (After w.DURING) (Maybe SpellsPeriodEnd) tokens from from (omega arith)
          (during_reaches tokens from) c.args.least_stop c.in_err-duration.field-0.0 c.in_err-duration.ensures.least;
    })
