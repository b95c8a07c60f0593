-- That REQUEST or RELEASE is read with its names, or the least stop is told.
use Rattle.std.proofs.Common.{ℕ, ◌+◌, ◌<◌, ◌^◌, max, length, rules, refl, arith}
use Rattle.pearl_tree.specs.declared.statement.Stmt.TheVariants as stmt
use Rattle.pearl_tree.specs.declared.symbol.TheConstants as s
use Rattle.pearl_parse_expr.specs.Stops.{is_symbol}
use Rattle.pearl_parse_expr.proofs.Offered.{reading_is}
use Rattle.pearl_grammar.proofs.Offered.{part_read, token_read, part_missing, took_list, lacks_first, only}
use Rattle.pearl_parse.proofs.Along.{lacking, token_missing}
use Rattle.pearl_parse.proofs.Starts.{semas_begun}
use Rattle.pearl_parse.proofs.tasking.on_semas.Goals as goal

pub returns-in_err-names : goal.returns-in_err-names
returns-in_err-names c = λ depth.
    let few : length c.args.tokens.now < 2 ^ 55 = search rules in
    let begun = semas_begun c.args.tokens.now depth c.args.from c.requires.within few c.args.word c.requires.word in
    let none = c.in_err-names.ensures in
    lacking c.in_err-names.field-0.0 c.from_residual.result c.from_residual.ensures (part_missing begun
    (lacks_first c.in_err-names.field-0.0 none.refused none.least (omega arith)) (omega arith) (omega arith))

pub returns-in_err-symbol : goal.returns-in_err-symbol
returns-in_err-symbol c = λ depth.
    let few : length c.args.tokens.now < 2 ^ 55 = search rules in
    let begun = semas_begun c.args.tokens.now depth c.args.from c.requires.within few c.args.word c.requires.word in
    let read = c.in_ok-names.ensures in
    token_missing c.in_err-symbol.field-0.0 c.from_residual-in_err-symbol.result c.from_residual-in_err-symbol.ensures
    (is_symbol s.SEMICOLON) (part_read begun (took_list {new = c.in_ok-names.names.stop} read
    (omega (arith, read.ahead)) (omega arith)) (refl, tt) (omega arith) (omega arith) (omega arith))
    c.in_err-symbol.ensures.missing (refl, tt) (omega arith) (omega arith)

pub returns : goal.returns
returns c = λ depth.
    let few : length c.args.tokens.now < 2 ^ 55 = search rules in
    let begun = semas_begun c.args.tokens.now depth c.args.from c.requires.within few c.args.word c.requires.word in
    let read = c.in_ok-names.ensures in
    let to : ℕ = c.in_ok-names.names.end + 1 in
    let symbol = c.in_ok-symbol.ensures in
    rw (reading_is c.map.result (stmt.OnSemas c.in_ok-boxed.field-0.part) to (max c.in_ok-names.names.stop to)
    (search rules) (search rules) (search rules))
    (only _ (token_read (part_read begun
    (took_list {new = c.in_ok-names.names.stop} read (omega (arith, read.ahead)) (omega arith)) (refl, tt) (omega arith)
    (omega arith) (omega arith)) refl symbol.stands symbol.within) refl (omega (arith, read.ahead)) (search rules))
