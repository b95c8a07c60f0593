-- What `specified` answers: no names, behind them INTERRUPT, or neither INTERRUPT nor DATION.
use Rattle.std.proofs.Common.{rules, ◌≡◌, ◌||◌, true, true≢false, refl, sym, ap, arith}
use Rattle.pearl_tree.specs.declared.word_code.TheConstants as w
use Rattle.pearl_parse_expr.specs.Stops.{is_word}
use Rattle.pearl_parse_expr.proofs.Offered.{residual}
use Rattle.pearl_grammar.proofs.Offered.{neither, spec_start, mark_read, token_read, only_read, first_chosen, missing}
use Rattle.pearl_grammar.proofs.Offered.{part_missing, took_only, lacks_first, longest, none_longest}
use Rattle.pearl_parse_decl.proofs.specification.specified.Goals as goal

pub returns-in_err-names : goal.returns-in_err-names
returns-in_err-names c =
    rw (residual c.in_err-names.field-0.0 c.from_residual.result c.from_residual.ensures)
    (let none = c.in_err-names.ensures in
    none_longest _ (part_missing (mark_read (spec_start c.args.tokens.now c.args.from c.requires (search rules)))
    (lacks_first c.in_err-names.field-0.0 none.refused none.least (omega arith)) (omega arith) (omega arith)))

pub returns-then-is_word : goal.returns-then-is_word
returns-then-is_word c =
    let names = c.in_ok-names.names in
    let read = c.in_ok-names.ensures in
    let same : c.past-names.result.part ≡ names.part = ap (λ reading. reading.part) c.past-names.ensures in
    rw c.past-names.ensures (longest _ (token_read (first_chosen {new = names.stop} true (is_word w.INTERRUPT)
    (only_read (mark_read (spec_start c.args.tokens.now c.args.from c.requires (search rules)))
    (took_only {new = names.stop} read (omega (arith, read.ahead)) c.requires) (omega arith) (omega arith))
    (omega (arith, read.ahead)) (sym c.if-is_word.ensures.value) (refl, tt) (omega arith)) refl
    (c.if-is_word.ensures.stands refl) (c.if-is_word.ensures.within refl)) refl
    (λ token h. absurd (true≢false (sym h))) (omega (arith, read.ahead)) (search rules))

pub returns : goal.returns
returns c =
    let names = c.in_ok-names.names in
    let read = c.in_ok-names.ensures in
    none_longest _ (missing (λ token. is_word w.INTERRUPT token || is_word w.DATION token)
    (only_read (mark_read (spec_start c.args.tokens.now c.args.from c.requires (search rules)))
    (took_only {new = names.stop} read (omega (arith, read.ahead)) c.requires) (omega arith) (omega arith))
    (neither _ _ (sym c.if-is_word.ensures.value) (sym c.if-is_word-2.ensures.value)) (refl, (refl, tt)) (omega arith)
    (omega arith) (omega (arith, read.ahead)))
