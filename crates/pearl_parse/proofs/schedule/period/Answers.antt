-- That a period is read, or the least stop is told.
use Rattle.std.proofs.Common.{◌<◌, ◌^◌, length, rules, arith}
use Rattle.pearl_parse_expr.proofs.Offered.{reading_is}
use Rattle.pearl_grammar.proofs.Offered.{Ends, Next, ends_fill, halt_part, past_part, done}
use Rattle.pearl_tree.specs.Statements.{SpellsPeriodEnd, SpellsPeriod}
use Rattle.pearl_tree.specs.declared.word_code.TheConstants as w
use Rattle.pearl_parse.proofs.Comes.{Maybe}
use Rattle.pearl_parse.proofs.ScheduleMade.{After}
use Rattle.pearl_parse.proofs.ScheduleLeast.{after_is_local, maybe_end_is_local, end_fills, period_first, period_past}
use Rattle.pearl_parse.proofs.ScheduleLeast.{period_stopped}
use Rattle.pearl_parse.proofs.Unread.{unread_behind}
use Rattle.pearl_parse.proofs.schedule.period.Goals as goal

pub returns-in_err-end : goal.returns-in_err-end
returns-in_err-end c =
    let duration = c.in_ok-duration.duration in
    let read = c.in_ok-duration.ensures in
    let tokens = c.args.tokens.now in
    let from = c.args.from in
    let low = c.args.least_stop in
    let few : length tokens < 2 ^ 55 = search rules in
    let at = period_past tokens from low (omega (arith, c.requires.from)) few duration.part duration.end duration.stop
    read.spells (omega (arith, read.bounds)) (omega (arith, read.bounds)) read.least in
    unread_behind _ c.in_err-end.field-0.0 c.from_residual-in_err-end.result c.from_residual-in_err-end.ensures
    (λ e is. is)
    (period_stopped c.args.tokens.now c.args.from c.args.least_stop duration.end duration.stop c.in_err-end.field-0.0
    read.longest (omega (arith, read.bounds)) read.bounds.2 c.in_err-end.ensures.reads.refused)
    (halt_part 16 SpellsPeriod tokens from low 0 8 (Maybe SpellsPeriodEnd) Ends maybe_end_is_local ends_fill
    (omega arith) duration.end duration.stop (omega (arith, read.bounds)) at
    c.in_err-end.field-0.0 c.in_err-end.ensures.reads.least)

pub returns-in_err-duration : goal.returns-in_err-duration
returns-in_err-duration c =
    let tokens = c.args.tokens.now in
    let from = c.args.from in
    let low = c.args.least_stop in
    let few : length tokens < 2 ^ 55 = search rules in
    unread_behind _ c.in_err-duration.field-0.0 c.from_residual.result c.from_residual.ensures (λ e is. is)
    (search rules)
    (halt_part 16 SpellsPeriod tokens from low 0 8 (After w.ALL) (Next (Maybe SpellsPeriodEnd) Ends)
    (after_is_local w.ALL) end_fills (omega arith) from low (omega arith)
    (period_first tokens from low (omega (arith, c.requires.from)) few) c.in_err-duration.field-0.0
    c.in_err-duration.ensures.least)

pub returns : goal.returns
returns c =
    let tokens = c.args.tokens.now in
    let from = c.args.from in
    let low = c.args.least_stop in
    let few : length tokens < 2 ^ 55 = search rules in
    let duration = c.in_ok-duration.duration in
    let read = c.in_ok-duration.ensures in
    let at = period_past tokens from low (omega (arith, c.requires.from)) few duration.part duration.end duration.stop
    read.spells (omega (arith, read.bounds)) (omega (arith, read.bounds)) read.least in
    let end = c.in_ok-end.end in
    let last = c.in_ok-end.ensures.reads in
    rw (reading_is c.map.result (record { duration = duration.part; end = end.part; place = c.place_at-place.result })
    end.end
    end.stop (search rules) (search rules) (search rules))
    (record {
      spells = search rules;
      longest = search rules;
      bounds = search rules;
      refused = tt;
      least = done 16 SpellsPeriod tokens from low end.end end.stop end.stop
          (past_part 16 SpellsPeriod tokens from low 0 8 (Maybe SpellsPeriodEnd) Ends maybe_end_is_local ends_fill
          (omega arith) duration.end duration.stop (omega (arith, read.bounds)) at end.part end.end end.stop
          last.spells (omega (arith, last.bounds)) (omega (arith, last.bounds)) last.least)
          (omega (arith, last.bounds));
    })
