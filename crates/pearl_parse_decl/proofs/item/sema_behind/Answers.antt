-- What `sema_behind` answers: no SEMA, want of memory, or a semaphore with PRESET or without it.
use Rattle.std.proofs.Common.{rules, refl, sym, arith}
use Rattle.pearl_tree.specs.declared.word_code.TheConstants as w
use Rattle.pearl_parse_expr.specs.Stops.{is_word}
use Rattle.pearl_parse_expr.proofs.Offered.{residual}
use Rattle.pearl_parse_decl.proofs.Behind.{no_memory_read}
use Rattle.pearl_grammar.proofs.Offered.{sema_start, mark_read, token_read, only_read, part_taken, missing, took_only}
use Rattle.pearl_grammar.proofs.Offered.{took_maybe_list, longest, none_longest}
use Rattle.pearl_parse_decl.proofs.item.sema_behind.Goals as goal

pub returns-then-not-is_word-clause-reads : goal.returns-then-not-is_word-clause-reads
returns-then-not-is_word-clause-reads c =
    let names = c.args.names in
    let read = c.requires.names in
    none_longest _ (missing (is_word w.SEMA)
    (only_read (mark_read (sema_start c.args.tokens.now c.args.from c.requires.within (search rules)))
    (took_only {new = names.stop} read (omega (arith, read.ahead)) c.requires.within) (omega arith) (omega arith))
    (sym c.if-not-is_word.ensures.value) (refl, tt) (omega arith) (omega arith) (omega (arith, read.ahead)))

pub returns-in_err-preset-clause-reads : goal.returns-in_err-preset-clause-reads
returns-in_err-preset-clause-reads c =
    rw (residual c.in_err-preset.field-0.0 c.from_residual.result c.from_residual.ensures)
    (no_memory_read c.in_err-preset.field-0.0 c.in_err-preset.ensures.memory)

pub returns-clause-reads : goal.returns-clause-reads
returns-clause-reads c =
    let names = c.args.names in
    let read = c.requires.names in
    let preset = c.in_ok-preset.ensures.reads in
    longest _ (part_taken (token_read
    (only_read (mark_read (sema_start c.args.tokens.now c.args.from c.requires.within (search rules)))
    (took_only {new = names.stop} read (omega (arith, read.ahead)) c.requires.within) (omega arith) (omega arith)) refl
    (c.if-not-is_word.ensures.stands refl) (c.if-not-is_word.ensures.within refl))
    (took_maybe_list {new = c.max.result} preset c.max.ensures (omega (arith, read.ahead))) tt (omega (arith, read.ahead))
    (omega arith)) (omega (arith, c.max.ensures, preset.bounds)) (λ token h. h) (omega (arith, read.ahead, preset.bounds))
    (search rules)
