-- What `class` answers: neither word stands there, or BASIC with a type behind it or without.
use Rattle.std.proofs.Common.{rules, ℕ, ◌≡◌, ◌+◌, ◌≤◌, ◌<◌, ◌^◌, List, length, false, refl, sym, arith}
use Rattle.pearl_tree.specs.declared.token.Token.{Token}
use Rattle.pearl_tree.specs.declared.word_code.TheConstants as w
use Rattle.pearl_tree.specs.Standing.{what_at, HasWord}
use Rattle.pearl_tree.specs.Declarations.{SpellsClass}
use Rattle.pearl_parse_expr.specs.Stops.{is_word}
use Rattle.pearl_grammar.specs.Rules.{Then, End}
use Rattle.pearl_grammar.specs.Declarations.{plain_type}
use Rattle.pearl_grammar.specs.Reached.{never}
use Rattle.pearl_grammar.proofs.Offered.{begins, basic, class, class_start, Walk, mark_read, token_read, second_chosen}
use Rattle.pearl_grammar.proofs.Offered.{part_taken, part_missing, took_longest, lacks_first, longest, none_longest}
use Rattle.pearl_parse_decl.proofs.Behind.{none_read}
use Rattle.pearl_parse_decl.proofs.specification.class.Goals as goal

-- behind BASIC
opened : (tokens : List Token) (from : ℕ) → from ≤ length tokens → length tokens < 2 ^ 55 →
    is_word w.ALPHIC (what_at tokens from) ≡ false → HasWord tokens from w.BASIC → from < length tokens →
    Walk 16 SpellsClass tokens from 0 (Then plain_type End) (basic, tt) never (from + 1) from
opened tokens from within few none word there =
    token_read (mark_read (second_chosen false (is_word w.ALPHIC) (class_start tokens from within few) (omega arith) none
    (refl, tt) (omega arith))) refl word there

pub returns-then-not-is_word-clause-reads : goal.returns-then-not-is_word-clause-reads
returns-then-not-is_word-clause-reads c =
    none_read (search rules) (begins SpellsClass class 16 (omega arith) c.args.tokens.now c.args.from c.requires)

pub returns-in-Ok-clause-reads : goal.returns-in-Ok-clause-reads
returns-in-Ok-clause-reads c =
    let read = c.in-Ok.ensures.reads in
    longest _ (part_taken (opened c.args.tokens.now c.args.from c.requires (search rules) (sym c.if-is_word.ensures.value)
    (c.if-not-is_word.ensures.stands refl) (c.if-not-is_word.ensures.within refl))
    (took_longest {new = c.in-Ok.basic.stop} read (omega (arith, read.ahead)) c.requires) tt (omega arith) (omega arith))
    (omega (arith, read.ahead)) (λ token h. h) (omega (arith, read.ahead)) (search rules)

pub returns-in-Err-clause-reads : goal.returns-in-Err-clause-reads
returns-in-Err-clause-reads c =
    let none = c.in-Err.ensures.reads in
    none_longest _ (part_missing (opened c.args.tokens.now c.args.from c.requires (search rules)
    (sym c.if-is_word.ensures.value) (c.if-not-is_word.ensures.stands refl) (c.if-not-is_word.ensures.within refl))
    (lacks_first c.in-Err.halt none.refused none.least (omega arith)) (omega arith) (omega arith))
