-- That a task or a procedure is read behind its name, or the least stop is told.
use Rattle.std.proofs.Common.{◌+◌, sym, ap, ◌<◌, ◌^◌, length, rules, arith}
use Rattle.pearl_tree.specs.Modules.{SpellsDecl}
use Rattle.pearl_tree.specs.declared.symbol.TheConstants as s
use Rattle.pearl_tree.specs.declared.word_code.TheConstants as w
use Rattle.pearl_parse_expr.specs.Stops.{is_name, is_symbol, is_word}
use Rattle.pearl_parse.proofs.Steps.{missing}
use Rattle.pearl_parse.proofs.DeclarationRests.{unit_rest, word_rest, unit_goes, word_goes}
use Rattle.pearl_parse.proofs.DeclarationLeast.{no_colon, no_proc}
use Rattle.pearl_parse.proofs.Unread.{unread}
use Rattle.pearl_parse.proofs.module.unit.Goals as goal

pub returns-in_err-symbol : goal.returns-in_err-symbol
returns-in_err-symbol c =
    let tokens = c.args.tokens.now in
    let from = c.args.from in
    let few : length tokens < 2 ^ 55 = search rules in
    unread 24 SpellsDecl tokens from _ c.in_err-symbol.field-0.0 c.from_residual.result c.from_residual.ensures
    (λ e is. is)
    (missing SpellsDecl tokens from (is_symbol s.COLON) unit_rest (from + 1) from (from + 1) c.in_err-symbol.field-0.0
    (unit_goes tokens from (ap is_name c.requires.name.0))
    (λ others to h. ap (is_symbol s.COLON) h) (omega arith) (omega (arith, c.requires.within))
    (omega (arith, c.requires.within)) c.in_err-symbol.ensures.missing)
    (no_colon tokens from few c.args.name c.requires.name c.requires.within c.in_err-symbol.field-0.0
    c.in_err-symbol.ensures.missing)

pub returns-in_err-word : goal.returns-in_err-word
returns-in_err-word c =
    let tokens = c.args.tokens.now in
    let from = c.args.from in
    let few : length tokens < 2 ^ 55 = search rules in
    unread 24 SpellsDecl tokens from _ c.in_err-word.field-0.0 c.from_residual-in_err-word.result
    c.from_residual-in_err-word.ensures (λ e is. is)
    (missing SpellsDecl tokens from (is_word w.PROC) word_rest (from + 2) (from + 2) (from + 2) c.in_err-word.field-0.0
    (word_goes tokens from (ap is_name c.requires.name.0) (sym c.if-is_word.ensures.value))
    (λ others to h. h) (omega arith) (omega (arith, c.in_ok-symbol.ensures.within))
    (omega (arith, c.in_ok-symbol.ensures.within)) c.in_err-word.ensures.missing)
    (no_proc tokens from few c.args.name c.requires.name c.requires.within c.in_ok-symbol.ensures.stands
    c.in_ok-symbol.ensures.within c.in_err-word.field-0.0 c.in_err-word.ensures.missing)
