-- That a period is read where ALL stands.
use Rattle.std.proofs.Common.{rules, sym, arith, Some}
use Rattle.pearl_tree.specs.declared.word_code.TheConstants as w
use Rattle.pearl_parse_expr.specs.Stops.{extends_expression, is_word}
use Rattle.pearl_parse_expr.proofs.Offered.{residual, reading_is}
use Rattle.pearl_parse.specs.Schedules.{SpellsLongPeriod}
use Rattle.pearl_parse.proofs.Steps.{optional_is_longest, optional_is_stopped}
use Rattle.pearl_tree.specs.Statements.{SpellsPeriod}
use Rattle.pearl_parse.proofs.Comes.{Maybe}
use Rattle.pearl_parse.proofs.ScheduleLeast.{told_some, halts_some}
use Rattle.pearl_parse.proofs.States.{told_none}
use Rattle.pearl_parse.proofs.schedule.maybe_period.Goals as goal

pub returns : goal.returns
returns c =
    rw (reading_is c.map.result (Some c.in_ok-period.field-0.part) c.in_ok-period.field-0.end
    c.in_ok-period.field-0.stop (search rules) (search rules) (search rules))
    (record {
      spells = search rules;
      longest = optional_is_longest (is_word w.ALL) SpellsLongPeriod c.args.tokens.now c.args.from extends_expression
          c.in_ok-period.field-0.end c.in_ok-period.field-0.stop (sym c.if-not-is_word.ensures.value)
          (omega (arith, c.in_ok-period.ensures.bounds)) c.in_ok-period.ensures.longest;
      bounds = search rules;
      refused = tt;
      least = told_some SpellsPeriod c.args.tokens.now c.args.from c.args.least_stop c.in_ok-period.field-0.end
          c.in_ok-period.field-0.stop
          (omega (arith, c.in_ok-period.ensures.bounds)) c.in_ok-period.ensures.least;
    })

pub returns-in_err-period : goal.returns-in_err-period
returns-in_err-period c =
    rw (residual c.in_err-period.field-0.0 c.from_residual.result c.from_residual.ensures)
    (record {
      spells = tt;
      longest = tt;
      bounds = tt;
      refused = optional_is_stopped (is_word w.ALL) SpellsLongPeriod c.args.tokens.now c.args.from c.args.least_stop
          c.in_err-period.field-0.0 (sym c.if-not-is_word.ensures.value) c.in_err-period.ensures.refused;
      least = halts_some SpellsPeriod c.args.tokens.now c.args.from c.args.least_stop c.in_err-period.field-0.0
          c.in_err-period.ensures.least;
    })

pub returns-then-not-is_word : goal.returns-then-not-is_word
returns-then-not-is_word c =
    record {
      spells = search rules;
      longest = search rules;
      bounds = search rules;
      refused = tt;
      least = told_none 16 (Maybe SpellsPeriod) c.args.tokens.now c.args.from c.args.least_stop c.max.result
          (omega (arith, c.max.ensures));
    }
