-- What `length_of` answers: no sort stands behind LENGTH, no number in brackets behind it, no semicolon, or all do.
use Rattle.std.proofs.Common.{rules, ℕ, ◌≡◌, ◌+◌, ◌<◌, ◌^◌, inl, inr, List, length, Option, Some, false, refl, sym, subst, arith}
use Rattle.pearl_tree.specs.declared.typing.Sort.{Sort}
use Rattle.pearl_tree.specs.declared.typing.Sort.TheVariants.{Fixed, Bit, Char}
use Rattle.pearl_tree.specs.declared.token.What.{What}
use Rattle.pearl_tree.specs.declared.token.What.TheVariants as what
use Rattle.pearl_tree.specs.declared.token.Token.{Token}
use Rattle.pearl_tree.specs.declared.symbol.TheConstants as s
use Rattle.pearl_tree.specs.declared.word_code.TheConstants as w
use Rattle.pearl_tree.specs.Standing.{what_at, HasWord}
use Rattle.pearl_tree.specs.Types.{sort_word}
use Rattle.pearl_tree.specs.Modules.{SpellsDecl}
use Rattle.pearl_parse_expr.specs.Stops.{is_symbol}
use Rattle.pearl_parse_expr.proofs.Offered.{residual, word_within}
use Rattle.pearl_grammar.specs.Rules.{Then}
use Rattle.pearl_grammar.specs.Declarations as rule
use Rattle.pearl_grammar.specs.Reached.{never}
use Rattle.pearl_grammar.proofs.Offered.{Among, sort, bracketed_number, close_facts, length_start, Walk, mark_read}
use Rattle.pearl_grammar.proofs.Offered.{token_read, one_read, only_read, lacking, missing, part_missing, took_only}
use Rattle.pearl_grammar.proofs.Offered.{lacks_first, none_only}
use Rattle.pearl_parse_decl.proofs.declaration.length_of.Goals as goal

module _ (tokens : List Token) (from : ℕ) (few : length tokens < 2 ^ 55) (word : HasWord tokens from w.LENGTH) where
  -- behind LENGTH
  opened : Walk 16 SpellsDecl tokens from 0 (Then rule.sort (Then rule.bracketed_number rule.close))
      (sort, (bracketed_number, close_facts)) never (from + 1) from
  opened = token_read (mark_read (length_start tokens from word few)) refl word (word_within tokens from w.LENGTH word)

  -- and the sort
  sorted : (x : Sort) → HasWord tokens (from + 1) (sort_word x) → from + 1 < length tokens →
      Walk 16 SpellsDecl tokens from 0 (Then rule.bracketed_number rule.close) (bracketed_number, close_facts) never
      (from + 2) from
  sorted x here there = one_read opened (λ others k x to h. h.1) (omega arith) (here, refl) there

no_sort : (token : Option What) → ((x : Sort) → token ≡ Some (what.Word (sort_word x)) → ⊥) → Among sort.firsts token → ⊥
no_sort token none (inl h) = none Fixed h
no_sort token none (inr (inl h)) = none Bit h
no_sort token none (inr (inr (inl h))) = none Char h
no_sort token none (inr (inr (inr h))) = h

pub returns-in-None-clause-reads : goal.returns-in-None-clause-reads
returns-in-None-clause-reads c =
    none_only _ (lacking (opened c.args.tokens.now c.args.from (search rules) c.requires.word)
    (no_sort _ (λ x h. c.in-None.ensures.none refl x h)) (omega arith) (omega arith) (omega arith))

pub returns-in_err-number-clause-reads : goal.returns-in_err-number-clause-reads
returns-in_err-number-clause-reads c =
    rw (residual c.in_err-number.field-0.0 c.from_residual.result c.from_residual.ensures)
    (let none = c.in_err-number.ensures.reads in
    none_only _ (part_missing (sorted c.args.tokens.now c.args.from (search rules) c.requires.word c.in-Some.sort
    c.in-Some.ensures.some c.in-Some.ensures.within)
    (lacks_first c.in_err-number.field-0.0 none.refused none.least (omega arith)) (omega arith) (omega arith)))

pub returns-then-not-is_symbol-clause-reads : goal.returns-then-not-is_symbol-clause-reads
returns-then-not-is_symbol-clause-reads c =
    let number = c.in_ok-number.number in
    let read = c.in_ok-number.ensures in
    let same : c.args.from + 5 ≡ number.end = omega (arith, read.reads.spells.3) in
    none_only _ (missing (is_symbol s.SEMICOLON) (only_read
    (sorted c.args.tokens.now c.args.from (search rules) c.requires.word c.in-Some.sort c.in-Some.ensures.some
    c.in-Some.ensures.within)
    (took_only {new = number.stop} read.reads (omega (arith, read.reads.ahead)) c.requires.within) (omega arith) (omega arith))
    (subst (λ k. is_symbol s.SEMICOLON (what_at c.args.tokens.now k) ≡ false) same (sym c.if-not-is_symbol.ensures.value))
    (refl, tt) (omega arith) (omega arith) (omega (arith, same, read.once)))

pub returns-in_err-number-clause-memory : goal.returns-in_err-number-clause-memory
returns-in_err-number-clause-memory c =
    rw (residual c.in_err-number.field-0.0 c.from_residual.result c.from_residual.ensures)
    c.in_err-number.ensures.memory
