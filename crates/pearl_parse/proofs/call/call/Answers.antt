-- That CALL is read with its name and arguments, or the least stop is told.
use Rattle.std.proofs.Common.{ℕ, ◌+◌, ◌<◌, ◌^◌, max, length, rules, refl, arith}
use Rattle.pearl_tree.specs.declared.statement.Stmt.TheVariants as stmt
use Rattle.pearl_tree.specs.declared.symbol.TheConstants as s
use Rattle.pearl_parse_expr.specs.Stops.{is_name, is_symbol}
use Rattle.pearl_parse_expr.proofs.Offered.{reading_is}
use Rattle.pearl_grammar.proofs.Offered.{token_read, only}
use Rattle.pearl_parse.proofs.StatementRests.{Spelled}
use Rattle.pearl_parse.proofs.Along.{name_read, lacking, lacks_token_at, token_missing}
use Rattle.pearl_parse.proofs.Named.{call_begun, past_arguments}
use Rattle.pearl_parse.proofs.Unread.{no_memory_read}
use Rattle.pearl_parse.proofs.call.call.Goals as goal

pub returns-in_err-called : goal.returns-in_err-called
returns-in_err-called c = λ depth.
    let few : length c.args.tokens.now < 2 ^ 55 = search rules in
    lacking c.in_err-called.field-0.0 c.from_residual.result c.from_residual.ensures
    (lacks_token_at c.args.from c.in_err-called.field-0.0 is_name
    (call_begun c.args.tokens.now depth c.args.from c.requires.within few c.requires.word)
    c.in_err-called.ensures.missing (omega arith) ((λ name. refl), tt) (omega arith) (omega arith))

pub returns-in_err-arguments : goal.returns-in_err-arguments
returns-in_err-arguments c = λ depth.
    no_memory_read 24 (Spelled depth) c.args.tokens.now c.args.from _ c.in_err-arguments.field-0.0
    c.from_residual-in_err-arguments.result c.from_residual-in_err-arguments.ensures (λ e is. is)
    c.in_err-arguments.ensures.memory

pub returns-in_err-symbol : goal.returns-in_err-symbol
returns-in_err-symbol c = λ depth.
    let few : length c.args.tokens.now < 2 ^ 55 = search rules in
    let name = c.in_ok-called.ensures in
    let read = c.in_ok-arguments.ensures.reads in
    token_missing c.in_err-symbol.field-0.0 c.from_residual-in_err-symbol.result c.from_residual-in_err-symbol.ensures
    (is_symbol s.SEMICOLON) (past_arguments c.args.tokens.now depth c.args.from c.requires.within few
    (name_read {next = c.args.from + 2} (call_begun c.args.tokens.now depth c.args.from c.requires.within few
    c.requires.word) (omega arith) name.stands name.within) read (omega (arith, read.bounds)))
    c.in_err-symbol.ensures.missing (refl, tt) (omega arith) (omega arith)

pub returns : goal.returns
returns c = λ depth.
    let few : length c.args.tokens.now < 2 ^ 55 = search rules in
    let name = c.in_ok-called.ensures in
    let arguments = c.in_ok-arguments.arguments in
    let read = c.in_ok-arguments.ensures.reads in
    let symbol = c.in_ok-symbol.ensures in
    let to : ℕ = arguments.end + 1 in
    rw (reading_is c.map-2.result (stmt.Call c.in_ok-boxed.field-0.part) to (max arguments.stop to) (search rules)
    (search rules) (search rules))
    (only _ (token_read (past_arguments c.args.tokens.now depth c.args.from c.requires.within few
    (name_read {next = c.args.from + 2} (call_begun c.args.tokens.now depth c.args.from c.requires.within few
    c.requires.word) (omega arith) name.stands name.within) read (omega (arith, read.bounds))) refl symbol.stands
    symbol.within) refl (omega (arith, read.bounds)) (search rules))
