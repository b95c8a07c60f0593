-- What `prio` answers: no PRIO stands there, or no number behind it.
use Rattle.std.proofs.Common.{rules, refl, sym, arith}
use Rattle.pearl_tree.specs.declared.word_code.TheConstants as w
use Rattle.pearl_parse_expr.specs.Stops.{is_number, is_word}
use Rattle.pearl_grammar.proofs.Offered.{prio_start, missing, mark_read, token_read, none_only}
use Rattle.pearl_parse_decl.proofs.head.prio.Goals as goal

pub returns-then-not-is_word-clause-reads : goal.returns-then-not-is_word-clause-reads
returns-then-not-is_word-clause-reads c =
    none_only _ (missing (is_word w.PRIO) (prio_start c.args.tokens.now c.args.from c.requires (search rules))
    (sym c.if-not-is_word.ensures.value) (refl, tt) (omega arith) (omega arith) (omega arith))

pub returns-in-None-clause-reads : goal.returns-in-None-clause-reads
returns-in-None-clause-reads c =
    none_only _ (missing is_number
    (token_read (mark_read (prio_start c.args.tokens.now c.args.from c.requires (search rules))) refl
    (c.if-not-is_word.ensures.stands refl) (c.if-not-is_word.ensures.within refl))
    (c.in-None.ensures.none refl) ((λ value. refl), tt) (omega arith) (omega arith) (omega arith))
