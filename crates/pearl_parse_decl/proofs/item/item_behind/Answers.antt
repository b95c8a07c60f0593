-- What `item_behind` answers: want of memory, no type, or an item with INIT or without it.
use Rattle.std.proofs.Common.{rules, ℕ, ◌≡◌, ◌≤◌, ◌<◌, ◌^◌, List, length, Bool, Ok, max, refl, arith}
use Rattle.pearl_tree.specs.declared.name.Names.{Names}
use Rattle.pearl_tree.specs.declared.parts.Parts.{Parts}
use Rattle.pearl_tree.specs.declared.typing.Bound.{Bound}
use Rattle.pearl_tree.specs.declared.token.Token.{Token}
use Rattle.pearl_tree.specs.declared.word_code.TheConstants as w
use Rattle.pearl_tree.specs.Standing.{SpellsFlag}
use Rattle.pearl_tree.specs.Types.{SpellsNames, SpellsBounds}
use Rattle.pearl_tree.specs.Declarations.{SpellsItem}
use Rattle.pearl_parse_expr.specs.declared.reading.Reading.{Reading}
use Rattle.pearl_parse_expr.specs.Reads.{ReadsOnly}
use Rattle.pearl_parse_expr.specs.Stops.{is_word}
use Rattle.pearl_parse_expr.proofs.Offered.{residual}
use Rattle.pearl_grammar.specs.Rules.{MaybeHeaded, Then, End}
use Rattle.pearl_grammar.specs.Declarations as rule
use Rattle.pearl_grammar.specs.Reached.{never}
use Rattle.pearl_parse_decl.specs.Readings.{ReadsMaybePart, by_bracket}
use Rattle.pearl_parse_decl.proofs.Behind.{no_memory_read}
use Rattle.pearl_grammar.proofs.Offered.{constant, whole_typing, item_start, Walk, mark_read, only_read, part_read}
use Rattle.pearl_grammar.proofs.Offered.{part_taken, part_missing, took_only, took_longest, took_maybe, took_maybe_list}
use Rattle.pearl_grammar.proofs.Offered.{lacks, longest, none_longest}
use Rattle.pearl_parse_decl.proofs.item.item_behind.Goals as goal

-- behind the names, the bounds and INV
typed : (tokens : List Token) (from : ℕ) → from ≤ length tokens → length tokens < 2 ^ 55 → (names : Reading Names)
    (read : ReadsOnly 9 SpellsNames tokens from (Ok names)) (bounds : Reading (Parts Bound))
    (bounded : ReadsMaybePart 9 SpellsBounds by_bracket tokens names.end (Ok bounds)) (inv : Reading Bool)
    (flagged : ReadsMaybePart 16 (λ tokens. SpellsFlag tokens w.INV) (is_word w.INV) tokens bounds.end (Ok inv))
    (first stop : ℕ) → first ≡ max names.stop bounds.stop → stop ≡ max first inv.stop →
    Walk 16 SpellsItem tokens from 0 (Then rule.whole_type (Then (MaybeHeaded w.INIT rule.constant) End))
    (whole_typing, (constant, tt)) never inv.end stop
typed tokens from within few names read bounds bounded inv flagged first stop is later =
    part_read
    (part_read
    (only_read (mark_read (item_start tokens from within few))
    (took_only {new = names.stop} read (omega (arith, read.ahead)) within) (omega arith) (omega arith))
    (took_maybe {new = first} bounded (omega (arith, is)) (omega (arith, read.ahead)))
    (refl, ((λ name. refl), (refl, (refl, (refl, (refl, (refl, (refl, tt)))))))) (omega arith) (omega (arith, read.ahead))
    (omega arith))
    (took_maybe {new = stop} flagged (omega (arith, later)) (omega (arith, is, read.ahead, bounded.bounds)))
    ((λ name. refl), (refl, (refl, (refl, (refl, (refl, (refl, tt))))))) (omega arith)
    (omega (arith, read.ahead, bounded.bounds)) (omega arith)

pub returns-in_err-bounds-clause-reads : goal.returns-in_err-bounds-clause-reads
returns-in_err-bounds-clause-reads c =
    rw (residual c.in_err-bounds.field-0.0 c.from_residual.result c.from_residual.ensures)
    (no_memory_read c.in_err-bounds.field-0.0 c.in_err-bounds.ensures.memory)

pub returns-in-Err-clause-reads : goal.returns-in-Err-clause-reads
returns-in-Err-clause-reads c =
    let before = typed c.args.tokens.now c.args.from c.requires.within (search rules) c.args.names c.requires.names
    c.in_ok-bounds.bounds c.in_ok-bounds.ensures.reads c.flag-inv.result c.flag-inv.ensures.reads c.max.result
    c.max-before.result c.max.ensures c.max-before.ensures in
    none_longest _ (part_missing before (lacks c.in-Err.halt c.behind.result c.in-Err.ensures.refused c.in-Err.ensures.least
    c.behind.ensures.same before.inside) (omega (arith, before.level.near)) (omega arith))

pub returns-in_err-init-clause-reads : goal.returns-in_err-init-clause-reads
returns-in_err-init-clause-reads c =
    rw (residual c.in_err-init.field-0.0 c.from_residual-in_err-init.result c.from_residual-in_err-init.ensures)
    (no_memory_read c.in_err-init.field-0.0
    c.in_err-init.ensures.memory)

pub returns-clause-reads : goal.returns-clause-reads
returns-clause-reads c =
    let before = typed c.args.tokens.now c.args.from c.requires.within (search rules) c.args.names c.requires.names
    c.in_ok-bounds.bounds c.in_ok-bounds.ensures.reads c.flag-inv.result c.flag-inv.ensures.reads c.max.result
    c.max-before.result c.max.ensures c.max-before.ensures in
    let read = c.in-Ok.ensures in
    let init = c.in_ok-init.ensures.reads in
    longest _ (part_taken
    (part_taken before (took_longest {new = c.max-2.result} read c.max-2.ensures before.inside) (refl, tt)
    (omega (arith, before.level.near)) (omega arith))
    (took_maybe_list {new = c.max-3.result} init c.max-3.ensures (omega (arith, c.max-2.ensures, read.ahead, before.inside))) tt
    (omega (arith, before.level.near, read.ahead)) (omega arith)) (omega (arith, c.max-3.ensures, init.bounds))
    (λ token h. h) (omega (arith, before.level.near, read.ahead, init.bounds)) (search rules)
