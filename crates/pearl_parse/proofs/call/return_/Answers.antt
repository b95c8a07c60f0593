-- That RETURN is read, with its value if it has one, or the least stop is told.
use Rattle.std.proofs.Common.{ℕ, ◌+◌, ◌<◌, ◌^◌, max, length, rules, refl, arith}
use Rattle.pearl_tree.specs.declared.statement.Stmt.TheVariants as stmt
use Rattle.pearl_tree.specs.declared.symbol.TheConstants as s
use Rattle.pearl_parse_expr.specs.Stops.{is_symbol}
use Rattle.pearl_parse_expr.proofs.Offered.{reading_is}
use Rattle.pearl_grammar.proofs.Offered.{token_read, only}
use Rattle.pearl_parse.proofs.Along.{took_optional, optional_read, optional_missing, lacking, token_missing}
use Rattle.pearl_parse.proofs.Starts.{return_begun}
use Rattle.pearl_parse.proofs.call.return_.Goals as goal

pub returns-in_err-value : goal.returns-in_err-value
returns-in_err-value c = λ depth.
    let few : length c.args.tokens.now < 2 ^ 55 = search rules in
    let begun = return_begun c.args.tokens.now depth c.args.from c.requires.within few c.requires.word in
    lacking c.in_err-value.field-0.0 c.from_residual.result c.from_residual.ensures
    (optional_missing (is_symbol s.LEFT_ROUND) c.in_err-value.field-0.0 begun c.in_err-value.ensures (omega arith)
    (refl, tt) (omega arith) (omega arith) (omega arith))

pub returns-in_err-symbol : goal.returns-in_err-symbol
returns-in_err-symbol c = λ depth.
    let few : length c.args.tokens.now < 2 ^ 55 = search rules in
    let begun = return_begun c.args.tokens.now depth c.args.from c.requires.within few c.requires.word in
    let read = c.in_ok-value.ensures in
    token_missing c.in_err-symbol.field-0.0 c.from_residual-in_err-symbol.result c.from_residual-in_err-symbol.ensures
    (is_symbol s.SEMICOLON) (optional_read (is_symbol s.LEFT_ROUND) begun (refl, tt) (omega arith)
    (took_optional {new = c.in_ok-value.value.stop} read (omega (arith, read.bounds)) (omega arith)) (refl, tt)
    (omega arith) (omega arith))
    c.in_err-symbol.ensures.missing (refl, tt) (omega arith) (omega arith)

pub returns : goal.returns
returns c = λ depth.
    let few : length c.args.tokens.now < 2 ^ 55 = search rules in
    let begun = return_begun c.args.tokens.now depth c.args.from c.requires.within few c.requires.word in
    let value = c.in_ok-value.value in
    let read = c.in_ok-value.ensures in
    let to : ℕ = value.end + 1 in
    let symbol = c.in_ok-symbol.ensures in
    rw (reading_is c.map.result (stmt.Return c.in_ok-boxed.field-0.part) to (max value.stop to) (search rules)
    (search rules) (search rules))
    (only _ (token_read (optional_read (is_symbol s.LEFT_ROUND) begun (refl, tt) (omega arith)
    (took_optional {new = value.stop} read (omega (arith, read.bounds)) (omega arith)) (refl, tt) (omega arith)
    (omega arith)) refl symbol.stands symbol.within) refl (omega (arith, read.bounds)) (search rules))
