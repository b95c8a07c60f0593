-- What `int` answers: neither a number nor a sign stands there, or a sign and no number.
use Rattle.std.proofs.Common.{rules, ◌+◌, refl, sym, arith, ◌||◌}
use Rattle.pearl_tree.specs.declared.symbol.TheConstants as s
use Rattle.pearl_parse_expr.specs.Stops.{is_number, is_symbol}
use Rattle.pearl_grammar.proofs.Offered.{neither, int_start, missing, mark_read, part_read, took_symbol, none_only}
use Rattle.pearl_parse_decl.proofs.typing.int.Goals as goal

pub returns-then-not-is_symbol-clause-reads : goal.returns-then-not-is_symbol-clause-reads
returns-then-not-is_symbol-clause-reads c =
    none_only _ (missing (λ token. is_symbol s.MINUS token || is_number token)
    (int_start c.args.tokens.now c.args.from c.requires (search rules))
    (neither _ _ (sym c.if-not-is_symbol.ensures.value) (c.in_default.ensures.none refl)) (refl, ((λ value. refl), tt))
    (omega arith) (omega arith) (omega arith))

pub returns-in-None-clause-reads : goal.returns-in-None-clause-reads
returns-in-None-clause-reads c =
    none_only _ (missing is_number
    (part_read (mark_read (int_start c.args.tokens.now c.args.from c.requires (search rules)))
    (took_symbol {inner = 0} {new = c.args.from + 1} (c.if-not-is_symbol.ensures.stands refl)
    (c.if-not-is_symbol.ensures.within refl) refl (omega arith) c.requires) ((λ value. refl), tt) (omega arith) (omega arith)
    (omega arith)) (c.in-None.ensures.none refl) ((λ value. refl), tt) (omega arith) (omega arith) (omega arith))
