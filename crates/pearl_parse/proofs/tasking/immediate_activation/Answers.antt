-- That an activation without a start is read, or the least stop is told.
use Rattle.std.proofs.Common.{◌<◌, ◌^◌, length, rules, arith}
use Rattle.pearl_tree.specs.declared.statement.Stmt.TheVariants as stmt
use Rattle.pearl_parse_expr.proofs.Offered.{reading_is}
use Rattle.pearl_grammar.proofs.Offered.{as_one, only_read, part_missing, only}
use Rattle.pearl_parse.proofs.Along.{took_only_behind, lacks_only_behind, lacking}
use Rattle.pearl_parse.proofs.Scheduled.{activated_parts}
use Rattle.pearl_parse.proofs.ScheduledReads.{activation_begun}
use Rattle.pearl_parse.proofs.tasking.immediate_activation.Goals as goal

pub returns-in_err-activation : goal.returns-in_err-activation
returns-in_err-activation c = λ depth.
    let few : length c.args.tokens.now < 2 ^ 55 = search rules in
    lacking c.in_err-activation.field-0.0 c.from_residual.result c.from_residual.ensures
    (part_missing (as_one (activation_begun c.args.tokens.now depth c.args.from c.requires.within few c.requires.word))
    (lacks_only_behind c.in_err-activation.ensures) (omega arith) (omega arith))

pub returns : goal.returns
returns c = λ depth.
    let few : length c.args.tokens.now < 2 ^ 55 = search rules in
    let activation = c.in_ok-activation.activation in
    let read = c.in_ok-activation.ensures in
    rw (reading_is c.map.result (stmt.Activate c.in_ok-boxed.field-0.part) activation.end activation.stop (search rules)
    (search rules) (search rules))
    (only _ (only_read (as_one (activation_begun c.args.tokens.now depth c.args.from c.requires.within few
    c.requires.word)) (took_only_behind read (omega arith) (activation.part.task, (activation.part.priority, tt))
    (activated_parts c.args.tokens.now c.args.from activation.part activation.end read.spells)) (omega arith)
    (omega arith)) (omega (arith, read.bounds)) (omega (arith, read.bounds)) (search rules))
