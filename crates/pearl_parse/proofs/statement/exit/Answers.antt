-- That EXIT is read, or the least stop is told.
use Rattle.std.proofs.Common.{◌+◌, ◌<◌, ◌^◌, length, rules, refl, arith}
use Rattle.pearl_tree.specs.declared.symbol.TheConstants as s
use Rattle.pearl_parse_expr.specs.Stops.{is_symbol}
use Rattle.pearl_grammar.proofs.Offered.{token_read, only}
use Rattle.pearl_parse.proofs.Steps.{err_told, missing_is_refused}
use Rattle.pearl_parse.proofs.Along.{token_missing}
use Rattle.pearl_parse.proofs.Starts.{exit_begun}
use Rattle.pearl_parse.proofs.statement.exit.Goals as goal

pub returns-in_err-symbol-clause-memory : goal.returns-in_err-symbol-clause-memory
returns-in_err-symbol-clause-memory c =
    err_told _ _ c.in_err-symbol.field-0.0 c.from_residual.result c.from_residual.ensures (λ e is. is)
    (missing_is_refused c.args.tokens.now (is_symbol s.SEMICOLON) (c.args.from + 1) c.args.from
    c.in_err-symbol.field-0.0 c.in_err-symbol.ensures.missing)

pub returns-in_err-symbol-clause-reads : goal.returns-in_err-symbol-clause-reads
returns-in_err-symbol-clause-reads c = λ depth.
    let few : length c.args.tokens.now < 2 ^ 55 = search rules in
    token_missing c.in_err-symbol.field-0.0 c.from_residual.result c.from_residual.ensures (is_symbol s.SEMICOLON)
    (exit_begun c.args.tokens.now depth c.args.from c.requires.within few c.requires.word)
    c.in_err-symbol.ensures.missing (refl, tt) (omega arith) (omega arith)

pub returns-clause-reads : goal.returns-clause-reads
returns-clause-reads c = λ depth.
    let few : length c.args.tokens.now < 2 ^ 55 = search rules in
    let symbol = c.in_ok-symbol.ensures in
    only _ (token_read {next = c.args.from + 2}
    (exit_begun c.args.tokens.now depth c.args.from c.requires.within few c.requires.word) (omega arith) symbol.stands
    symbol.within) (omega arith) (omega arith) (search rules)
