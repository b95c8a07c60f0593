-- What `type_of` answers: no name stands behind TYPE, no type behind the name, no semicolon, or all do.
use Rattle.std.proofs.Common.{rules, ℕ, ◌≡◌, ◌+◌, ◌<◌, ◌^◌, List, length, refl, sym, ap, arith}
use Rattle.pearl_tree.specs.declared.name.Name.{Name}
use Rattle.pearl_tree.specs.declared.token.Token.{Token}
use Rattle.pearl_tree.specs.declared.symbol.TheConstants as s
use Rattle.pearl_tree.specs.declared.word_code.TheConstants as w
use Rattle.pearl_tree.specs.Standing.{HasWord, IsName}
use Rattle.pearl_tree.specs.Modules.{SpellsDecl}
use Rattle.pearl_parse_expr.specs.Stops.{is_name, is_symbol}
use Rattle.pearl_parse_expr.proofs.Offered.{residual, word_within}
use Rattle.pearl_grammar.specs.Rules.{Then}
use Rattle.pearl_grammar.specs.Declarations as rule
use Rattle.pearl_grammar.specs.Reached.{never}
use Rattle.pearl_grammar.proofs.Offered.{close_facts, whole_typing, type_start, Walk, mark_read, token_read, one_read}
use Rattle.pearl_grammar.proofs.Offered.{part_read, missing, part_missing, took_longest, lacks_first, only, none_only}
use Rattle.pearl_parse_decl.proofs.declaration.type_of.Goals as goal

-- behind TYPE and the name
named : (tokens : List Token) (from : ℕ) → length tokens < 2 ^ 55 → HasWord tokens from w.TYPE → (name : Name) →
    IsName tokens (from + 1) name → from + 1 < length tokens →
    Walk 16 SpellsDecl tokens from 0 (Then rule.whole_type rule.close) (whole_typing, close_facts) never (from + 2) from
named tokens from few word name here there =
    one_read (token_read (mark_read (type_start tokens from word few)) refl word (word_within tokens from w.TYPE word))
    (λ others k x to h. h.1) (omega arith) (here, refl) there

pub returns-in-None : goal.returns-in-None
returns-in-None c =
    none_only _ (missing is_name
    (token_read (mark_read (type_start c.args.tokens.now c.args.from c.requires.word (search rules))) refl c.requires.word
    (word_within c.args.tokens.now c.args.from w.TYPE c.requires.word))
    (c.in-None.ensures.none refl) ((λ name. refl), tt) (omega arith) (omega arith) (omega arith))

pub returns-in_err-typing : goal.returns-in_err-typing
returns-in_err-typing c =
    rw (residual c.in_err-typing.field-0.0 c.from_residual.result c.from_residual.ensures)
    (let none = c.in_err-typing.ensures in
    none_only _ (part_missing (named c.args.tokens.now c.args.from (search rules) c.requires.word c.in-Some.name
    c.in-Some.ensures.some c.in-Some.ensures.within)
    (lacks_first c.in_err-typing.field-0.0 none.refused none.least (omega arith)) (omega arith) (omega arith)))

pub returns-then-not-is_symbol : goal.returns-then-not-is_symbol
returns-then-not-is_symbol c =
    let read = c.in_ok-typing.ensures in
    none_only _ (missing (is_symbol s.SEMICOLON) (part_read
    (named c.args.tokens.now c.args.from (search rules) c.requires.word c.in-Some.name c.in-Some.ensures.some
    c.in-Some.ensures.within)
    (took_longest {new = c.in_ok-typing.typing.stop} read (omega (arith, read.ahead)) c.requires.within) (refl, tt) (omega arith)
    (omega arith) (omega arith)) (sym c.if-not-is_symbol.ensures.value) (refl, tt) (omega arith) (omega arith)
    (omega (arith, read.ahead)))

pub returns : goal.returns
returns c =
    let typing = c.in_ok-typing.typing in
    let read = c.in_ok-typing.ensures in
    let same : c.past-closed.result.part ≡ typing.part = ap (λ reading. reading.part) c.past-closed.ensures in
    rw c.past-closed.ensures (only _ (token_read (part_read
    (named c.args.tokens.now c.args.from (search rules) c.requires.word c.in-Some.name c.in-Some.ensures.some
    c.in-Some.ensures.within)
    (took_longest {new = typing.stop} read (omega (arith, read.ahead)) c.requires.within) (refl, tt) (omega arith)
    (omega arith) (omega arith)) refl (c.if-not-is_symbol.ensures.stands refl) (c.if-not-is_symbol.ensures.within refl)) refl
    (omega (arith, read.ahead)) (search rules))
