-- That an expression in brackets is read, or the least stop is told.
use Rattle.std.proofs.Common.{◌<◌, ◌^◌, length, rules, refl, arith}
use Rattle.pearl_tree.specs.declared.symbol.TheConstants as s
use Rattle.pearl_parse_expr.specs.Stops.{is_symbol}
use Rattle.pearl_grammar.proofs.Offered.{value_start, part_read, token_read, part_missing, only}
use Rattle.pearl_parse.proofs.Along.{took_as, lacks_behind, lacking, token_missing}
use Rattle.pearl_parse.proofs.call.value.Goals as goal

pub returns-in_err-value : goal.returns-in_err-value
returns-in_err-value c =
    let few : length c.args.tokens.now < 2 ^ 55 = search rules in
    lacking c.in_err-value.field-0.0 c.from_residual.result c.from_residual.ensures (part_missing
    (token_read (value_start c.args.tokens.now c.args.from (omega (arith, c.requires.within)) few) refl
    c.requires.bracket c.requires.within) (lacks_behind c.in_err-value.ensures) (omega arith) (omega arith))

pub returns-in_err-symbol : goal.returns-in_err-symbol
returns-in_err-symbol c =
    let few : length c.args.tokens.now < 2 ^ 55 = search rules in
    token_missing c.in_err-symbol.field-0.0 c.from_residual-in_err-symbol.result c.from_residual-in_err-symbol.ensures
    (is_symbol s.RIGHT_ROUND) (part_read
    (token_read (value_start c.args.tokens.now c.args.from (omega (arith, c.requires.within)) few) refl
    c.requires.bracket c.requires.within) (took_as (omega arith) c.in_ok-value.ensures) (refl, tt) (omega arith)
    (omega arith) (omega arith)) c.in_err-symbol.ensures.missing (refl, tt) (omega arith) (omega arith)

pub returns : goal.returns
returns c =
    let few : length c.args.tokens.now < 2 ^ 55 = search rules in
    let read = c.in_ok-value.ensures in
    let symbol = c.in_ok-symbol.ensures in
    rw c.past.ensures (only _ (token_read (part_read
    (token_read (value_start c.args.tokens.now c.args.from (omega (arith, c.requires.within)) few) refl
    c.requires.bracket c.requires.within) (took_as (omega arith) read) (refl, tt) (omega arith) (omega arith)
    (omega arith)) refl symbol.stands symbol.within) refl (omega (arith, read.bounds))
    (c.in_ok-value.value.end, c.requires.bracket, read.spells, symbol.stands, refl))
