-- That SEND is read, or the least stop is told.
use Rattle.std.proofs.Common.{ℕ, ◌+◌, ◌<◌, ◌^◌, max, length, rules, refl, arith}
use Rattle.pearl_tree.specs.declared.statement.Stmt.TheVariants as stmt
use Rattle.pearl_tree.specs.declared.symbol.TheConstants as s
use Rattle.pearl_tree.specs.declared.word_code.TheConstants as w
use Rattle.pearl_parse_expr.specs.Stops.{is_name, is_symbol, is_word}
use Rattle.pearl_parse_expr.proofs.Offered.{reading_is}
use Rattle.pearl_grammar.proofs.Offered.{part_missing, token_read, only}
use Rattle.pearl_parse.proofs.Along.{name_read, lacking, token_missing, lacks_behind}
use Rattle.pearl_parse.proofs.Starts.{send_begun, past_sent}
use Rattle.pearl_parse.proofs.transfer.send.Goals as goal

pub returns-in_err-value : goal.returns-in_err-value
returns-in_err-value c = λ depth.
    let few : length c.args.tokens.now < 2 ^ 55 = search rules in
    lacking c.in_err-value.field-0.0 c.from_residual.result c.from_residual.ensures
    (part_missing (send_begun c.args.tokens.now depth c.args.from c.requires.within few c.requires.word)
    (lacks_behind c.in_err-value.ensures) (omega arith) (omega arith))

pub returns-in_err-word : goal.returns-in_err-word
returns-in_err-word c = λ depth.
    let few : length c.args.tokens.now < 2 ^ 55 = search rules in
    let begun = past_sent c.args.tokens.now depth c.args.from c.requires.within few c.requires.word
    c.in_ok-value.ensures in token_missing c.in_err-word.field-0.0 c.from_residual-in_err-word.result
    c.from_residual-in_err-word.ensures (is_word w.TO) begun c.in_err-word.ensures.missing (refl, tt) (omega arith)
    (omega arith)

pub returns-in_err-dation : goal.returns-in_err-dation
returns-in_err-dation c = λ depth.
    let few : length c.args.tokens.now < 2 ^ 55 = search rules in
    let begun = past_sent c.args.tokens.now depth c.args.from c.requires.within few c.requires.word
    c.in_ok-value.ensures in
    let word = c.in_ok-word.ensures in
    token_missing c.in_err-dation.field-0.0 c.from_residual-in_err-dation.result c.from_residual-in_err-dation.ensures
    is_name (token_read begun refl word.stands word.within) c.in_err-dation.ensures.missing ((λ name. refl), tt)
    (omega arith) (omega arith)

pub returns-in_err-symbol : goal.returns-in_err-symbol
returns-in_err-symbol c = λ depth.
    let few : length c.args.tokens.now < 2 ^ 55 = search rules in
    let begun = past_sent c.args.tokens.now depth c.args.from c.requires.within few c.requires.word
    c.in_ok-value.ensures in
    let word = c.in_ok-word.ensures in
    let name = c.in_ok-dation.ensures in
    token_missing c.in_err-symbol.field-0.0 c.from_residual-in_err-symbol.result c.from_residual-in_err-symbol.ensures
    (is_symbol s.SEMICOLON) (name_read {next = c.in_ok-value.value.end + 2} (token_read begun refl word.stands
    word.within) (omega arith) name.stands name.within) c.in_err-symbol.ensures.missing (refl, tt) (omega arith)
    (omega arith)

pub returns : goal.returns
returns c = λ depth.
    let few : length c.args.tokens.now < 2 ^ 55 = search rules in
    let begun = past_sent c.args.tokens.now depth c.args.from c.requires.within few c.requires.word
    c.in_ok-value.ensures in
    let word = c.in_ok-word.ensures in
    let name = c.in_ok-dation.ensures in
    let symbol = c.in_ok-symbol.ensures in
    let value = c.in_ok-value.value in
    let to : ℕ = value.end + 3 in
    rw (reading_is c.map.result (stmt.Send c.in_ok-boxed.field-0.part) to (max value.stop to) (search rules)
    (search rules) (search rules))
    (only _ (token_read {next = to} (name_read {next = value.end + 2}
    (token_read begun refl word.stands word.within) (omega arith) name.stands name.within) (omega arith) symbol.stands
    symbol.within) refl (omega (arith, begun.level.near)) (search rules))
