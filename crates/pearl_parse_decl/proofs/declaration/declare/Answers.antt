-- What `declare` answers: the list behind DCL isn't read, no semicolon closes it, or it is read.
use Rattle.std.proofs.Common.{rules, ℕ, ◌≡◌, ◌+◌, ◌<◌, ◌^◌, List, length, refl, sym, ap, arith}
use Rattle.pearl_tree.specs.declared.declaration.Declared.{Declared}
use Rattle.pearl_tree.specs.declared.token.Token.{Token}
use Rattle.pearl_tree.specs.declared.symbol.TheConstants as s
use Rattle.pearl_tree.specs.declared.word_code.TheConstants as w
use Rattle.pearl_tree.specs.Standing.{HasWord}
use Rattle.pearl_tree.specs.Declarations.{SpellsDeclared}
use Rattle.pearl_tree.specs.Modules.{SpellsDecl}
use Rattle.pearl_parse_expr.specs.Stops.{is_symbol}
use Rattle.pearl_parse_expr.proofs.Offered.{residual, word_within}
use Rattle.pearl_grammar.specs.Rules.{One, Listed, Then}
use Rattle.pearl_grammar.specs.Declarations.{close}
use Rattle.pearl_grammar.specs.Reached.{never}
use Rattle.pearl_grammar.proofs.Offered.{close_facts, declared, declare_start, Walk, mark_read, token_read, part_read}
use Rattle.pearl_grammar.proofs.Offered.{missing, part_missing, took_list, lacks_first, only, none_only}
use Rattle.pearl_parse_decl.proofs.declaration.declare.Goals as goal

-- behind DCL
opened : (tokens : List Token) (from : ℕ) → length tokens < 2 ^ 55 → HasWord tokens from w.DCL →
    Walk 16 SpellsDecl tokens from 0 (Then (Listed (One Declared SpellsDeclared)) close) (declared, close_facts) never (from + 1) from
opened tokens from few word =
    token_read (mark_read (declare_start tokens from word few)) refl word (word_within tokens from w.DCL word)

pub returns-in_err-parts : goal.returns-in_err-parts
returns-in_err-parts c =
    rw (residual c.in_err-parts.field-0.0 c.from_residual.result c.from_residual.ensures)
    (let none = c.in_err-parts.ensures.reads in
    none_only _ (part_missing (opened c.args.tokens.now c.args.from (search rules) c.requires.word)
    (lacks_first c.in_err-parts.field-0.0 none.refused none.least (omega arith)) (omega arith) (omega arith)))

pub returns-then-not-is_symbol : goal.returns-then-not-is_symbol
returns-then-not-is_symbol c =
    let read = c.in_ok-parts.ensures.reads in
    none_only _ (missing (is_symbol s.SEMICOLON) (part_read
    (opened c.args.tokens.now c.args.from (search rules) c.requires.word)
    (took_list {new = c.in_ok-parts.parts.stop} read (omega (arith, read.ahead)) c.requires.within) (refl, tt) (omega arith)
    (omega arith) (omega arith)) (sym c.if-not-is_symbol.ensures.value) (refl, tt) (omega arith) (omega arith)
    (omega (arith, read.ahead)))

pub returns : goal.returns
returns c =
    let read = c.in_ok-parts.ensures.reads in
    let same : c.past-closed.result.part ≡ c.in_ok-parts.parts.part = ap (λ reading. reading.part) c.past-closed.ensures
    in
    rw c.past-closed.ensures (only _ (token_read (part_read
    (opened c.args.tokens.now c.args.from (search rules) c.requires.word)
    (took_list {new = c.in_ok-parts.parts.stop} read (omega (arith, read.ahead)) c.requires.within) (refl, tt) (omega arith)
    (omega arith) (omega arith)) refl (c.if-not-is_symbol.ensures.stands refl) (c.if-not-is_symbol.ensures.within refl)) refl
    (omega (arith, read.ahead)) (search rules))
