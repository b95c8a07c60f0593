-- What `returned` answers: RETURNS, a bracket, a type in it or the closing bracket is missing, or all stand there.
use Rattle.std.proofs.Common.{rules, ℕ, ◌+◌, ◌≤◌, ◌<◌, ◌^◌, List, length, refl, sym, arith}
use Rattle.pearl_tree.specs.declared.token.Token.{Token}
use Rattle.pearl_tree.specs.declared.symbol.TheConstants as s
use Rattle.pearl_tree.specs.declared.word_code.TheConstants as w
use Rattle.pearl_tree.specs.Standing.{HasWord, HasSymbol}
use Rattle.pearl_tree.specs.Modules.{SpellsReturns}
use Rattle.pearl_parse_expr.specs.Stops.{is_symbol, is_word}
use Rattle.pearl_parse_expr.proofs.Offered.{residual}
use Rattle.pearl_grammar.specs.Rules.{Then, End, symbol}
use Rattle.pearl_grammar.specs.Declarations.{plain_type}
use Rattle.pearl_grammar.specs.Reached.{never}
use Rattle.pearl_grammar.proofs.Offered.{basic, returns_start, Walk, missing, token_read, part_read, part_missing}
use Rattle.pearl_grammar.proofs.Offered.{took_longest, lacks_first, only, none_only}
use Rattle.pearl_parse_decl.proofs.head.returned.Goals as goal

-- behind the bracket
opened : (tokens : List Token) (from : ℕ) → from ≤ length tokens → length tokens < 2 ^ 55 → HasWord tokens from w.RETURNS →
    from < length tokens → HasSymbol tokens (from + 1) s.LEFT_ROUND → from + 1 < length tokens →
    Walk 16 SpellsReturns tokens from 0 (Then plain_type (symbol s.RIGHT_ROUND End)) (basic, (omega arith, tt)) never
    (from + 2) from
opened tokens from within few word there bracket inside =
    token_read {next = from + 2} (token_read (returns_start tokens from within few) refl word there) (omega arith) bracket
    inside

pub returns-then-not-is_word-clause-reads : goal.returns-then-not-is_word-clause-reads
returns-then-not-is_word-clause-reads c =
    none_only _ (missing (is_word w.RETURNS) (returns_start c.args.tokens.now c.args.from c.requires (search rules))
    (sym c.if-not-is_word.ensures.value) (refl, tt) (omega arith) (omega arith) (omega arith))

pub returns-then-not-is_symbol-clause-reads : goal.returns-then-not-is_symbol-clause-reads
returns-then-not-is_symbol-clause-reads c =
    none_only _ (missing (is_symbol s.LEFT_ROUND)
    (token_read (returns_start c.args.tokens.now c.args.from c.requires (search rules)) refl
    (c.if-not-is_word.ensures.stands refl) (c.if-not-is_word.ensures.within refl))
    (sym c.if-not-is_symbol.ensures.value) (refl, tt) (omega arith) (omega arith) (omega arith))

pub returns-in_err-basic-clause-reads : goal.returns-in_err-basic-clause-reads
returns-in_err-basic-clause-reads c =
    rw (residual c.in_err-basic.field-0.0 c.from_residual.result c.from_residual.ensures)
    (let none = c.in_err-basic.ensures.reads in
    none_only _ (part_missing
    (opened c.args.tokens.now c.args.from c.requires (search rules) (c.if-not-is_word.ensures.stands refl)
    (c.if-not-is_word.ensures.within refl) (c.if-not-is_symbol.ensures.stands refl) (c.if-not-is_symbol.ensures.within refl))
    (lacks_first c.in_err-basic.field-0.0 none.refused none.least (omega arith)) (omega arith) (omega arith)))

pub returns-then-not-is_symbol-2-clause-reads : goal.returns-then-not-is_symbol-2-clause-reads
returns-then-not-is_symbol-2-clause-reads c =
    let basic = c.in_ok-basic.basic in
    let read = c.in_ok-basic.ensures.reads in
    none_only _ (missing (is_symbol s.RIGHT_ROUND) (part_read
    (opened c.args.tokens.now c.args.from c.requires (search rules) (c.if-not-is_word.ensures.stands refl)
    (c.if-not-is_word.ensures.within refl) (c.if-not-is_symbol.ensures.stands refl) (c.if-not-is_symbol.ensures.within refl))
    (took_longest {new = basic.stop} read (omega (arith, read.ahead)) c.requires) (refl, tt) (omega arith) (omega arith)
    (omega arith)) (sym c.if-not-is_symbol-2.ensures.value) (refl, tt) (omega arith) (omega arith) (omega (arith, read.ahead)))

pub returns-clause-reads : goal.returns-clause-reads
returns-clause-reads c =
    let basic = c.in_ok-basic.basic in
    let read = c.in_ok-basic.ensures.reads in
    rw c.past.ensures (only _ (token_read (part_read
    (opened c.args.tokens.now c.args.from c.requires (search rules) (c.if-not-is_word.ensures.stands refl)
    (c.if-not-is_word.ensures.within refl) (c.if-not-is_symbol.ensures.stands refl) (c.if-not-is_symbol.ensures.within refl))
    (took_longest {new = basic.stop} read (omega (arith, read.ahead)) c.requires) (refl, tt) (omega arith) (omega arith)
    (omega arith)) refl (c.if-not-is_symbol-2.ensures.stands refl) (c.if-not-is_symbol-2.ensures.within refl)) refl
    (omega (arith, read.ahead)) (search rules))

pub returns-in_err-basic-clause-memory : goal.returns-in_err-basic-clause-memory
returns-in_err-basic-clause-memory c =
    rw (residual c.in_err-basic.field-0.0 c.from_residual.result c.from_residual.ensures) (search rules)
