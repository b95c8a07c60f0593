-- What `bracketed_number` answers: no bracket, no number in it, or no bracket that closes it.
use Rattle.std.proofs.Common.{rules, ◌+◌, refl, sym, arith}
use Rattle.pearl_tree.specs.declared.symbol.TheConstants as s
use Rattle.pearl_parse_expr.specs.Stops.{is_number, is_symbol}
use Rattle.pearl_grammar.proofs.Offered.{bracketed_number_start, missing, token_read, one_read, none_only}
use Rattle.pearl_parse_decl.proofs.name.bracketed_number.Goals as goal

pub returns-then-not-is_symbol-clause-reads : goal.returns-then-not-is_symbol-clause-reads
returns-then-not-is_symbol-clause-reads c =
    none_only _ (missing (is_symbol s.LEFT_ROUND)
    (bracketed_number_start c.args.tokens.now c.args.from c.requires (search rules))
    (sym c.if-not-is_symbol.ensures.value) (refl, tt) (omega arith) (omega arith) (omega arith))

pub returns-in-None-clause-reads : goal.returns-in-None-clause-reads
returns-in-None-clause-reads c =
    none_only _ (missing is_number
    (token_read (bracketed_number_start c.args.tokens.now c.args.from c.requires (search rules)) refl
    (c.if-not-is_symbol.ensures.stands refl) (c.if-not-is_symbol.ensures.within refl))
    (c.in-None.ensures.none refl) ((λ value. refl), tt) (omega arith) (omega arith) (omega arith))

pub returns-then-not-is_symbol-2-clause-reads : goal.returns-then-not-is_symbol-2-clause-reads
returns-then-not-is_symbol-2-clause-reads c =
    none_only _ (missing (is_symbol s.RIGHT_ROUND)
    (one_read {next = c.args.from + 2}
    (token_read (bracketed_number_start c.args.tokens.now c.args.from c.requires (search rules)) refl
    (c.if-not-is_symbol.ensures.stands refl) (c.if-not-is_symbol.ensures.within refl))
    (λ others k x to h. h.1) (omega arith) (c.in-Some.ensures.some, refl) c.in-Some.ensures.within)
    (sym c.if-not-is_symbol-2.ensures.value) (refl, tt) (omega arith) (omega arith) (omega arith))
