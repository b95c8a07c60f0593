-- That GET is read, or the least stop is told.
use Rattle.std.proofs.Common.{◌<◌, ◌^◌, length, rules, refl, arith}
use Rattle.pearl_tree.specs.declared.word_code.TheConstants as w
use Rattle.pearl_parse_expr.specs.Stops.{is_word}
use Rattle.pearl_grammar.proofs.Offered.{token_read, as_one, only_read, part_missing, only}
use Rattle.pearl_parse.proofs.Along.{lacking, token_missing, lacks_only_behind, took_only_behind}
use Rattle.pearl_parse.proofs.Starts.{get_begun, past_got}
use Rattle.pearl_parse.proofs.Unless.{lacks_list}
use Rattle.pearl_parse.proofs.Transfers.{transferred}
use Rattle.pearl_parse.proofs.transfer.get.Goals as goal

pub returns-in_err-targets : goal.returns-in_err-targets
returns-in_err-targets c = λ depth.
    let few : length c.args.tokens.now < 2 ^ 55 = search rules in
    lacking c.in_err-targets.field-0.0 c.from_residual.result c.from_residual.ensures
    (lacks_list c.in_err-targets.field-0.0
    (get_begun c.args.tokens.now depth c.args.from c.requires.within few c.requires.word) c.in_err-targets.ensures (omega arith)
    (refl, tt) (omega arith) (omega arith) (omega arith))

pub returns-in_err-word : goal.returns-in_err-word
returns-in_err-word c = λ depth.
    let few : length c.args.tokens.now < 2 ^ 55 = search rules in
    token_missing c.in_err-word.field-0.0 c.from_residual-in_err-word.result c.from_residual-in_err-word.ensures
    (is_word w.FROM) (past_got c.args.tokens.now depth c.args.from c.requires.within few c.requires.word c.in_ok-targets.ensures)
    c.in_err-word.ensures.missing (refl, tt) (omega arith) (omega arith)

pub returns-in_err-station : goal.returns-in_err-station
returns-in_err-station c = λ depth.
    let few : length c.args.tokens.now < 2 ^ 55 = search rules in
    let at = past_got c.args.tokens.now depth c.args.from c.requires.within few c.requires.word c.in_ok-targets.ensures in
    let word = c.in_ok-word.ensures in
    lacking c.in_err-station.field-0.0 c.from_residual-in_err-station.result c.from_residual-in_err-station.ensures
    (part_missing (as_one (token_read at refl word.stands word.within)) (lacks_only_behind c.in_err-station.ensures)
    (omega (arith, at.level.near)) (omega arith))

pub returns : goal.returns
returns c = λ depth.
    let few : length c.args.tokens.now < 2 ^ 55 = search rules in
    let at = past_got c.args.tokens.now depth c.args.from c.requires.within few c.requires.word c.in_ok-targets.ensures in
    let word = c.in_ok-word.ensures in
    let station = c.in_ok-station.station in
    let last = c.in_ok-station.ensures in
    let behind = transferred c.args.tokens.now c.in_ok-targets.targets.end station.part.dation
    station.part.formats.items station.end last.spells in
    only _ (only_read (as_one (token_read at refl word.stands word.within)) (took_only_behind last (omega arith)
    (station.part.dation, (station.part.formats.items, tt)) last.spells) (omega (arith, at.level.near)) (omega arith))
    (omega (arith, last.bounds)) (omega (arith, at.level.near, last.bounds)) (search (rules, behind))
