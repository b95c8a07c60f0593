-- That SUSPEND, TERMINATE or PREVENT is read, or the least stop is told.
use Rattle.std.proofs.Common.{ℕ, ◌+◌, ◌<◌, ◌^◌, max, length, rules, refl, arith}
use Rattle.pearl_tree.specs.declared.statement.Stmt.TheVariants as stmt
use Rattle.pearl_tree.specs.declared.symbol.TheConstants as s
use Rattle.pearl_parse_expr.specs.Stops.{is_name, is_symbol}
use Rattle.pearl_parse_expr.proofs.Offered.{reading_is}
use Rattle.pearl_grammar.proofs.Offered.{token_read, only}
use Rattle.pearl_parse.proofs.Along.{took_optional, optional_read, token_missing}
use Rattle.pearl_parse.proofs.Starts.{task_begun}
use Rattle.pearl_parse.proofs.tasking.on_task.Goals as goal

pub returns-in_err-symbol : goal.returns-in_err-symbol
returns-in_err-symbol c = λ depth.
    let few : length c.args.tokens.now < 2 ^ 55 = search rules in
    let begun = task_begun c.args.tokens.now depth c.args.from c.requires.within few c.args.word c.requires.word in
    let task = c.maybe_name-task.result in
    let read = c.maybe_name-task.ensures.reads in
    token_missing c.in_err-symbol.field-0.0 c.from_residual.result c.from_residual.ensures (is_symbol s.SEMICOLON)
    (optional_read is_name begun (refl, tt) (omega arith) (took_optional {new = task.stop} read (omega (arith, read.bounds))
    (omega arith)) (refl, tt) (omega arith) (omega arith)) c.in_err-symbol.ensures.missing (refl, tt) (omega arith) (omega arith)

pub returns : goal.returns
returns c = λ depth.
    let few : length c.args.tokens.now < 2 ^ 55 = search rules in
    let begun = task_begun c.args.tokens.now depth c.args.from c.requires.within few c.args.word c.requires.word in
    let task = c.maybe_name-task.result in
    let read = c.maybe_name-task.ensures.reads in
    let to : ℕ = task.end + 1 in
    let symbol = c.in_ok-symbol.ensures in
    rw (reading_is c.map.result (stmt.OnTask c.in_ok-boxed.field-0.part) to (max task.stop to) (search rules)
    (search rules) (search rules))
    (only _ (token_read (optional_read is_name begun (refl, tt) (omega arith) (took_optional {new = task.stop} read
    (omega (arith, read.bounds)) (omega arith)) (refl, tt) (omega arith) (omega arith)) refl symbol.stands symbol.within) refl
    (omega (arith, read.bounds)) (search rules))
