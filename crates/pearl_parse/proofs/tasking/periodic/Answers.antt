-- That an activation is read that begins with its period, or the least stop is told.
use Rattle.std.proofs.Common.{◌<◌, ◌^◌, length, rules, arith}
use Rattle.pearl_tree.specs.declared.statement.Stmt.TheVariants as stmt
use Rattle.pearl_parse_expr.proofs.Offered.{reading_is}
use Rattle.pearl_grammar.proofs.Offered.{as_one, only_read, part_missing, only}
use Rattle.pearl_parse.proofs.Along.{took_only_behind, lacks_only_behind, lacking}
use Rattle.pearl_parse.proofs.Scheduled.{activated_parts}
use Rattle.pearl_parse.proofs.ScheduledReads.{period_begun, past_period, period_missing}
use Rattle.pearl_parse.proofs.tasking.periodic.Goals as goal

pub returns-in_err-period : goal.returns-in_err-period
returns-in_err-period c = λ depth.
    let few : length c.args.tokens.now < 2 ^ 55 = search rules in
    lacking c.in_err-period.field-0.0 c.from_residual.result c.from_residual.ensures
    (period_missing (period_begun c.args.tokens.now depth c.args.from c.requires.within few c.requires.word) (omega arith)
    (omega arith) c.in_err-period.field-0.0 c.in_err-period.ensures)

pub returns-in_err-activation : goal.returns-in_err-activation
returns-in_err-activation c = λ depth.
    let few : length c.args.tokens.now < 2 ^ 55 = search rules in
    let read = c.in_ok-period.ensures in
    lacking c.in_err-activation.field-0.0 c.from_residual-in_err-activation.result
    c.from_residual-in_err-activation.ensures
    (part_missing (as_one (past_period (period_begun c.args.tokens.now depth c.args.from c.requires.within few
    c.requires.word) (omega arith) (omega arith) read)) (lacks_only_behind c.in_err-activation.ensures)
    (omega (arith, read.bounds)) (omega arith))

pub returns : goal.returns
returns c = λ depth.
    let few : length c.args.tokens.now < 2 ^ 55 = search rules in
    let period = c.in_ok-period.period in
    let read = c.in_ok-period.ensures in
    let activation = c.in_ok-activation.activation in
    let last = c.in_ok-activation.ensures in
    rw (reading_is c.map.result (stmt.Activate c.in_ok-boxed.field-0.part) activation.end activation.stop (search rules)
    (search rules) (search rules))
    (only _ (only_read (as_one (past_period (period_begun c.args.tokens.now depth c.args.from c.requires.within few
    c.requires.word) (omega arith) (omega arith) read)) (took_only_behind last (omega arith)
    (activation.part.task, (activation.part.priority, tt))
    (activated_parts c.args.tokens.now period.end activation.part activation.end last.spells))
    (omega (arith, read.bounds)) (omega arith)) (omega (arith, last.bounds)) (omega (arith, read.bounds, last.bounds))
    (search rules))
