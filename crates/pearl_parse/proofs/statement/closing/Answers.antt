-- That the word and the semicolon stand that close a statement, or the least stop is told.
use Rattle.std.proofs.Common.{◌<◌, ◌^◌, length, rules}
use Rattle.pearl_parse.specs.Reads.{ReadsClosing}
use Rattle.pearl_parse.proofs.States.{handed_on}
use Rattle.pearl_parse.proofs.Closings.{no_word, behind_word}
use Rattle.pearl_parse.proofs.statement.closing.Goals as goal

pub returns-in_err-word : goal.returns-in_err-word
returns-in_err-word c =
    let tokens = c.args.tokens.now in
    let from = c.args.from in
    let low = c.args.least_stop in
    let few : length tokens < 2 ^ 55 = search rules in
    handed_on (λ result. ReadsClosing c.args.word tokens from low result) _ c.in_err-word.field-0.0
    c.from_residual.result c.from_residual.ensures (λ e is. is)
    (no_word tokens c.args.word from low c.requires.0 c.requires.1 few c.in_err-word.field-0.0
    c.in_err-word.ensures.missing)

pub returns : goal.returns
returns c =
    let tokens = c.args.tokens.now in
    let from = c.args.from in
    let low = c.args.least_stop in
    let few : length tokens < 2 ^ 55 = search rules in
    let word = c.in_ok-word.ensures in
    let symbol = c.symbol.ensures in
    behind_word tokens c.args.word from low c.requires.0 c.requires.1 few word.stands word.within c.symbol.result
    symbol.stands symbol.within symbol.missing
