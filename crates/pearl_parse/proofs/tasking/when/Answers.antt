-- That a statement is read that begins with WHEN, or the least stop is told.
use Rattle.std.proofs.Common.{ℕ, ◌+◌, ◌<◌, ◌^◌, List, length, rules, refl, sym, arith}
use Rattle.pearl_tree.specs.declared.name.Name.{Name}
use Rattle.pearl_tree.specs.declared.token.Token.{Token}
use Rattle.pearl_tree.specs.declared.symbol.TheConstants as s
use Rattle.pearl_tree.specs.declared.word_code.TheConstants as w
use Rattle.pearl_tree.specs.Standing.{HasWord, IsName}
use Rattle.pearl_parse_expr.specs.Stops.{is_name, is_symbol}
use Rattle.pearl_grammar.proofs.Offered.{token_read, only}
use Rattle.pearl_parse.proofs.Along.{name_read, token_missing}
use Rattle.pearl_parse.proofs.Scheduled.{on_time, late_rule, when_facts}
use Rattle.pearl_parse.proofs.ScheduledReads.{At, interrupt_begun, continued, resumed}
use Rattle.pearl_parse.proofs.tasking.when.Goals as goal

-- behind WHEN id
behind : (tokens : List Token) (depth from : ℕ) (inside : from < length tokens) (few : length tokens < 2 ^ 55) →
    HasWord tokens from w.WHEN → (name : Name) → IsName tokens (from + 1) name → from + 1 < length tokens →
    At tokens depth from inside few (on_time late_rule) when_facts.1.1 (from + 2) from
behind tokens depth from inside few here name named within =
    name_read {next = from + 2} (interrupt_begun tokens depth from inside few here) (omega arith) named within

pub returns-in_err-interrupt : goal.returns-in_err-interrupt
returns-in_err-interrupt c = λ depth.
    let few : length c.args.tokens.now < 2 ^ 55 = search rules in
    token_missing c.in_err-interrupt.field-0.0 c.from_residual.result c.from_residual.ensures is_name
    (interrupt_begun c.args.tokens.now depth c.args.from c.requires.within few c.requires.word)
    c.in_err-interrupt.ensures.missing ((λ name. refl), tt) (omega arith) (omega arith)

pub returns-in_err-task : goal.returns-in_err-task
returns-in_err-task c = λ depth.
    let few : length c.args.tokens.now < 2 ^ 55 = search rules in
    let interrupt = c.in_ok-interrupt.ensures in
    let word = c.if-is_word.ensures in
    token_missing c.in_err-task.field-0.0 c.from_residual-in_err-task.result c.from_residual-in_err-task.ensures is_name
    (continued c.args.tokens.now depth c.args.from c.requires.within few {new = c.args.from + 2}
    (behind c.args.tokens.now depth c.args.from c.requires.within few c.requires.word c.in_ok-interrupt.interrupt
    interrupt.stands interrupt.within) (omega arith) {next = c.args.from + 3} (omega arith) (word.stands refl)
    (word.within refl)
    (refl, (refl, (refl, (refl, tt)))) (omega arith)) c.in_err-task.ensures.missing ((λ name. refl), tt) (omega arith)
    (omega arith)

pub returns-in_err-symbol : goal.returns-in_err-symbol
returns-in_err-symbol c = λ depth.
    let few : length c.args.tokens.now < 2 ^ 55 = search rules in
    let interrupt = c.in_ok-interrupt.ensures in
    let word = c.if-is_word.ensures in
    let task = c.in_ok-task.ensures in
    token_missing c.in_err-symbol.field-0.0 c.from_residual-in_err-symbol.result c.from_residual-in_err-symbol.ensures
    (is_symbol s.SEMICOLON) (name_read {next = c.args.from + 4}
    (continued c.args.tokens.now depth c.args.from c.requires.within few {new = c.args.from + 2}
    (behind c.args.tokens.now depth c.args.from c.requires.within few c.requires.word c.in_ok-interrupt.interrupt
    interrupt.stands interrupt.within) (omega arith) {next = c.args.from + 3} (omega arith) (word.stands refl)
    (word.within refl)
    (refl, (refl, (refl, (refl, tt)))) (omega arith)) (omega arith) task.stands task.within)
    c.in_err-symbol.ensures.missing (refl, tt) (omega arith) (omega arith)

pub returns-then-is_word : goal.returns-then-is_word
returns-then-is_word c = λ depth.
    let few : length c.args.tokens.now < 2 ^ 55 = search rules in
    let interrupt = c.in_ok-interrupt.ensures in
    let word = c.if-is_word.ensures in
    let task = c.in_ok-task.ensures in
    let symbol = c.in_ok-symbol.ensures in
    only _ (token_read {next = c.args.from + 5} (name_read {next = c.args.from + 4}
    (continued c.args.tokens.now depth c.args.from c.requires.within few {new = c.args.from + 2}
    (behind c.args.tokens.now depth c.args.from c.requires.within few c.requires.word c.in_ok-interrupt.interrupt
    interrupt.stands interrupt.within) (omega arith) {next = c.args.from + 3} (omega arith) (word.stands refl)
    (word.within refl)
    (refl, (refl, (refl, (refl, tt)))) (omega arith)) (omega arith) task.stands task.within) (omega arith) symbol.stands
    symbol.within) (omega arith) (omega arith) (search rules)

pub returns-in_err-symbol-2 : goal.returns-in_err-symbol-2
returns-in_err-symbol-2 c = λ depth.
    let few : length c.args.tokens.now < 2 ^ 55 = search rules in
    let interrupt = c.in_ok-interrupt.ensures in
    let word = c.if-is_word-2.ensures in
    token_missing c.in_err-symbol-2.field-0.0 c.from_residual-in_err-symbol-2.result
    c.from_residual-in_err-symbol-2.ensures (is_symbol s.SEMICOLON)
    (resumed c.args.tokens.now depth c.args.from c.requires.within few {new = c.args.from + 2}
    (behind c.args.tokens.now depth c.args.from c.requires.within few c.requires.word c.in_ok-interrupt.interrupt
    interrupt.stands interrupt.within) (omega arith) (sym c.if-is_word.ensures.value) {next = c.args.from + 3} (omega arith)
    (word.stands refl)
    (word.within refl) (refl, (refl, (refl, tt))) (omega arith)) c.in_err-symbol-2.ensures.missing (refl, tt) (omega arith)
    (omega arith)

pub returns-then-is_word-2 : goal.returns-then-is_word-2
returns-then-is_word-2 c = λ depth.
    let few : length c.args.tokens.now < 2 ^ 55 = search rules in
    let interrupt = c.in_ok-interrupt.ensures in
    let word = c.if-is_word-2.ensures in
    let symbol = c.in_ok-symbol-2.ensures in
    only _ (token_read {next = c.args.from + 4}
    (resumed c.args.tokens.now depth c.args.from c.requires.within few {new = c.args.from + 2}
    (behind c.args.tokens.now depth c.args.from c.requires.within few c.requires.word c.in_ok-interrupt.interrupt
    interrupt.stands interrupt.within) (omega arith) (sym c.if-is_word.ensures.value) {next = c.args.from + 3} (omega arith)
    (word.stands refl)
    (word.within refl) (refl, (refl, (refl, tt))) (omega arith)) (omega arith) symbol.stands symbol.within) (omega arith)
    (omega arith) (search rules)
