-- That a statement is read that begins with AT or AFTER, or the least stop is told.
use Rattle.std.proofs.Common.{ℕ, ◌+◌, ◌<◌, ◌^◌, max, length, rules, refl, sym, arith}
use Rattle.pearl_tree.specs.declared.statement.Stmt.TheVariants as stmt
use Rattle.pearl_tree.specs.declared.symbol.TheConstants as s
use Rattle.pearl_parse_expr.specs.Stops.{is_name, is_symbol}
use Rattle.pearl_parse_expr.proofs.Offered.{reading_is}
use Rattle.pearl_grammar.proofs.Offered.{token_read, as_one, only_read, part_missing, only}
use Rattle.pearl_parse.proofs.Along.{name_read, took_only_behind, lacks_only_behind, lacking, token_missing}
use Rattle.pearl_parse.proofs.Scheduled.{begun_parts}
use Rattle.pearl_parse.proofs.ScheduledReads.{past_time, time_missing, continued, resumed, begins}
use Rattle.pearl_parse.proofs.tasking.timed.Goals as goal

pub returns-in_err-time : goal.returns-in_err-time
returns-in_err-time c = λ depth.
    let few : length c.args.tokens.now < 2 ^ 55 = search rules in
    lacking c.in_err-time.field-0.0 c.from_residual.result c.from_residual.ensures
    (time_missing c.args.tokens.now depth c.args.from c.requires.within few c.args.later c.time_word.result
    c.time_word.ensures c.requires.word c.in_err-time.field-0.0 c.in_err-time.ensures)

pub returns-in_err-task : goal.returns-in_err-task
returns-in_err-task c = λ depth.
    let few : length c.args.tokens.now < 2 ^ 55 = search rules in
    let read = c.in_ok-time.ensures in
    let word = c.if-is_word.ensures in
    token_missing c.in_err-task.field-0.0 c.from_residual-in_err-task.result c.from_residual-in_err-task.ensures is_name
    (continued c.args.tokens.now depth c.args.from c.requires.within few {new = c.in_ok-time.time.stop}
    (past_time c.args.tokens.now depth c.args.from c.requires.within few c.args.later c.time_word.result
    c.time_word.ensures c.requires.word read) (omega (arith, read.bounds)) refl (word.stands refl) (word.within refl)
    (refl, (refl, (refl, tt))) (omega arith)) c.in_err-task.ensures.missing ((λ name. refl), tt) (omega arith) (omega arith)

pub returns-in_err-symbol : goal.returns-in_err-symbol
returns-in_err-symbol c = λ depth.
    let few : length c.args.tokens.now < 2 ^ 55 = search rules in
    let read = c.in_ok-time.ensures in
    let word = c.if-is_word.ensures in
    let task = c.in_ok-task.ensures in
    token_missing c.in_err-symbol.field-0.0 c.from_residual-in_err-symbol.result c.from_residual-in_err-symbol.ensures
    (is_symbol s.SEMICOLON) (name_read {next = c.in_ok-time.time.end + 2}
    (continued c.args.tokens.now depth c.args.from c.requires.within few {new = c.in_ok-time.time.stop}
    (past_time c.args.tokens.now depth c.args.from c.requires.within few c.args.later c.time_word.result
    c.time_word.ensures c.requires.word read) (omega (arith, read.bounds)) refl (word.stands refl) (word.within refl)
    (refl, (refl, (refl, tt))) (omega arith)) (omega arith) task.stands task.within) c.in_err-symbol.ensures.missing
    (refl, tt) (omega arith) (omega arith)

pub returns-then-is_word : goal.returns-then-is_word
returns-then-is_word c = λ depth.
    let few : length c.args.tokens.now < 2 ^ 55 = search rules in
    let time = c.in_ok-time.time in
    let read = c.in_ok-time.ensures in
    let word = c.if-is_word.ensures in
    let task = c.in_ok-task.ensures in
    let symbol = c.in_ok-symbol.ensures in
    let to : ℕ = time.end + 3 in
    rw (reading_is c.map.result (stmt.Continue c.in_ok-boxed.field-0.part) to (max time.stop to) (search rules) (search
    rules) (search rules))
    (only _ (token_read {next = to} (name_read {next = time.end + 2}
    (continued c.args.tokens.now depth c.args.from c.requires.within few {new = time.stop}
    (past_time c.args.tokens.now depth c.args.from c.requires.within few c.args.later c.time_word.result
    c.time_word.ensures c.requires.word read) (omega (arith, read.bounds)) refl (word.stands refl) (word.within refl)
    (refl, (refl, (refl, tt))) (omega arith)) (omega arith) task.stands task.within) (omega arith) symbol.stands
    symbol.within) refl (omega (arith, read.bounds)) (search rules))

pub returns-in_err-symbol-2 : goal.returns-in_err-symbol-2
returns-in_err-symbol-2 c = λ depth.
    let few : length c.args.tokens.now < 2 ^ 55 = search rules in
    let read = c.in_ok-time.ensures in
    let word = c.if-is_word-2.ensures in
    token_missing c.in_err-symbol-2.field-0.0 c.from_residual-in_err-symbol-2.result
    c.from_residual-in_err-symbol-2.ensures (is_symbol s.SEMICOLON)
    (resumed c.args.tokens.now depth c.args.from c.requires.within few {new = c.in_ok-time.time.stop}
    (past_time c.args.tokens.now depth c.args.from c.requires.within few c.args.later c.time_word.result
    c.time_word.ensures c.requires.word read) (omega (arith, read.bounds)) (sym c.if-is_word.ensures.value) refl
    (word.stands refl) (word.within refl) (refl, (refl, tt)) (omega arith)) c.in_err-symbol-2.ensures.missing (refl, tt)
    (omega arith) (omega arith)

pub returns-then-is_word-2 : goal.returns-then-is_word-2
returns-then-is_word-2 c = λ depth.
    let few : length c.args.tokens.now < 2 ^ 55 = search rules in
    let time = c.in_ok-time.time in
    let read = c.in_ok-time.ensures in
    let word = c.if-is_word-2.ensures in
    let symbol = c.in_ok-symbol-2.ensures in
    let to : ℕ = time.end + 2 in
    rw (reading_is c.map-then-is_word-2.result (stmt.Resume c.in_ok-boxed-2.field-0.part) to (max time.stop to) (search
    rules) (search rules) (search rules))
    (only _ (token_read {next = to}
    (resumed c.args.tokens.now depth c.args.from c.requires.within few {new = time.stop}
    (past_time c.args.tokens.now depth c.args.from c.requires.within few c.args.later c.time_word.result
    c.time_word.ensures c.requires.word read) (omega (arith, read.bounds)) (sym c.if-is_word.ensures.value) refl
    (word.stands refl) (word.within refl) (refl, (refl, tt)) (omega arith)) (omega arith) symbol.stands symbol.within) refl
    (omega (arith, read.bounds)) (search rules))

pub returns-in_err-begun : goal.returns-in_err-begun
returns-in_err-begun c = λ depth.
    let few : length c.args.tokens.now < 2 ^ 55 = search rules in
    let read = c.in_ok-time.ensures in
    lacking c.in_err-begun.field-0.0 c.from_residual-in_err-begun.result c.from_residual-in_err-begun.ensures
    (part_missing (as_one
    (begins c.args.tokens.now depth c.args.from c.requires.within few {new = c.in_ok-time.time.stop}
    (past_time c.args.tokens.now depth c.args.from c.requires.within few c.args.later c.time_word.result
    c.time_word.ensures c.requires.word read) (omega (arith, read.bounds)) (sym c.if-is_word.ensures.value)
    (sym c.if-is_word-2.ensures.value))) (lacks_only_behind c.in_err-begun.ensures) (omega (arith, read.bounds))
    (omega arith))

pub returns : goal.returns
returns c = λ depth.
    let few : length c.args.tokens.now < 2 ^ 55 = search rules in
    let time = c.in_ok-time.time in
    let read = c.in_ok-time.ensures in
    let begun = c.in_ok-begun.begun in
    let last = c.in_ok-begun.ensures in
    rw (reading_is c.map-2.result (stmt.Activate c.in_ok-boxed-3.field-0.part) begun.end begun.stop (search rules)
    (search rules) (search rules))
    (only _ (only_read (as_one
    (begins c.args.tokens.now depth c.args.from c.requires.within few {new = time.stop}
    (past_time c.args.tokens.now depth c.args.from c.requires.within few c.args.later c.time_word.result
    c.time_word.ensures c.requires.word read) (omega (arith, read.bounds)) (sym c.if-is_word.ensures.value)
    (sym c.if-is_word-2.ensures.value))) (took_only_behind last (omega arith)
    (begun.part.period, (begun.part.activation.task, (begun.part.activation.priority, tt)))
    (begun_parts c.args.tokens.now time.end begun.part begun.end last.spells)) (omega (arith, read.bounds)) (omega arith))
    (omega (arith, last.bounds)) (omega (arith, read.bounds, last.bounds)) (search rules))
