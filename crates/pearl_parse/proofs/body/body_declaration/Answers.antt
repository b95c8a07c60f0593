-- That a declaration of a body is read, or the least stop is told.
use Rattle.std.proofs.Common.{ℕ, ◌+◌, max, rules, refl, arith}
use Rattle.pearl_tree.specs.declared.symbol.TheConstants as s
use Rattle.pearl_tree.specs.declared.word_code.TheConstants as w
use Rattle.pearl_parse_expr.specs.Stops.{is_symbol, is_word}
use Rattle.pearl_parse_expr.proofs.Offered.{reading_is}
use Rattle.pearl_grammar.proofs.Offered.{body_declaration_start, mark_read, token_read, part_read, part_missing, took_list}
use Rattle.pearl_grammar.proofs.Offered.{lacks_first, only}
use Rattle.pearl_parse.proofs.Along.{lacking, token_missing}
use Rattle.pearl_parse.proofs.body.body_declaration.Goals as goal

pub returns-in_err-word : goal.returns-in_err-word
returns-in_err-word c =
    token_missing c.in_err-word.field-0.0 c.from_residual.result c.from_residual.ensures (is_word w.DCL)
    (mark_read (body_declaration_start c.args.tokens.now c.args.from c.requires (search rules)))
    c.in_err-word.ensures.missing (refl, tt) (omega arith) (omega arith)

pub returns-in_err-items : goal.returns-in_err-items
returns-in_err-items c =
    let word = c.in_ok-word.ensures in
    let none = c.in_err-items.ensures.reads in
    lacking c.in_err-items.field-0.0 c.from_residual-in_err-items.result c.from_residual-in_err-items.ensures
    (part_missing (token_read (mark_read (body_declaration_start c.args.tokens.now c.args.from c.requires (search rules)))
    refl word.stands word.within) (lacks_first c.in_err-items.field-0.0 none.refused none.least (omega arith))
    (omega arith) (omega arith))

pub returns-in_err-symbol : goal.returns-in_err-symbol
returns-in_err-symbol c =
    let word = c.in_ok-word.ensures in
    let read = c.in_ok-items.ensures.reads in
    token_missing c.in_err-symbol.field-0.0 c.from_residual-in_err-symbol.result c.from_residual-in_err-symbol.ensures
    (is_symbol s.SEMICOLON) (part_read (token_read (mark_read (body_declaration_start c.args.tokens.now c.args.from
    c.requires (search rules))) refl word.stands word.within) (took_list {new = c.in_ok-items.items.stop} read
    (omega (arith, read.ahead)) c.requires) (refl, tt) (omega arith) (omega arith) (omega arith))
    c.in_err-symbol.ensures.missing (refl, tt) (omega arith) (omega arith)

pub returns : goal.returns
returns c =
    let items = c.in_ok-items.items in
    let word = c.in_ok-word.ensures in
    let read = c.in_ok-items.ensures.reads in
    let symbol = c.in_ok-symbol.ensures in
    let to : ℕ = items.end + 1 in
    rw (reading_is c.map.result c.map.result.part to (max items.stop to) (search rules) (search rules) (search rules))
    (only _ (token_read (part_read (token_read (mark_read (body_declaration_start c.args.tokens.now c.args.from
    c.requires (search rules))) refl word.stands word.within) (took_list {new = items.stop} read
    (omega (arith, read.ahead)) c.requires) (refl, tt) (omega arith) (omega arith) (omega arith)) refl symbol.stands
    symbol.within) refl (omega (arith, read.ahead)) (search rules))
