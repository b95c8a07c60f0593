-- That CONTINUE is read without a time, or the least stop is told.
use Rattle.std.proofs.Common.{◌+◌, ◌<◌, ◌^◌, length, rules, refl, arith}
use Rattle.pearl_tree.specs.declared.symbol.TheConstants as s
use Rattle.pearl_parse_expr.specs.Stops.{is_symbol, is_name}
use Rattle.pearl_grammar.proofs.Offered.{token_read, only}
use Rattle.pearl_parse.proofs.Along.{name_read, token_missing}
use Rattle.pearl_parse.proofs.ScheduledReads.{continuation_begun}
use Rattle.pearl_parse.proofs.tasking.immediate_continuation.Goals as goal

pub returns-in_err-task : goal.returns-in_err-task
returns-in_err-task c = λ depth.
    let few : length c.args.tokens.now < 2 ^ 55 = search rules in
    token_missing c.in_err-task.field-0.0 c.from_residual.result c.from_residual.ensures is_name
    (continuation_begun c.args.tokens.now depth c.args.from c.requires.within few c.requires.word)
    c.in_err-task.ensures.missing ((λ name. refl), tt) (omega arith) (omega arith)

pub returns-in_err-symbol : goal.returns-in_err-symbol
returns-in_err-symbol c = λ depth.
    let few : length c.args.tokens.now < 2 ^ 55 = search rules in
    let task = c.in_ok-task.ensures in
    token_missing c.in_err-symbol.field-0.0 c.from_residual-in_err-symbol.result c.from_residual-in_err-symbol.ensures
    (is_symbol s.SEMICOLON) (name_read {next = c.args.from + 2} (continuation_begun c.args.tokens.now depth c.args.from
    c.requires.within few c.requires.word) (omega arith) task.stands task.within) c.in_err-symbol.ensures.missing (refl, tt)
    (omega arith) (omega arith)

pub returns : goal.returns
returns c = λ depth.
    let few : length c.args.tokens.now < 2 ^ 55 = search rules in
    let task = c.in_ok-task.ensures in
    let symbol = c.in_ok-symbol.ensures in
    only _ (token_read {next = c.args.from + 3} (name_read {next = c.args.from + 2} (continuation_begun
    c.args.tokens.now depth c.args.from c.requires.within few c.requires.word) (omega arith) task.stands task.within)
    (omega arith) symbol.stands symbol.within) (omega arith) (omega arith) (search rules)
