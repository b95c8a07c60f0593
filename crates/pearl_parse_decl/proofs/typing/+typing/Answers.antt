-- What the readers of types answer, field by field, in the order of the code.
use Rattle.std.proofs.Common.{rules, ◌≡◌, ℕ, ◌+◌, ◌-◌, ◌<◌, ◌≤◌, ◌^◌, List, length, Ok, true≢false, inl, refl, sym, ap}
use Rattle.std.proofs.Common.{max, subst, ◌∙◌, arith}
use Rattle.pearl_tree.specs.declared.name.Names.{Names}
use Rattle.pearl_tree.specs.declared.parts.Parts.{Parts}
use Rattle.pearl_tree.specs.declared.typing.Bound.{Bound}
use Rattle.pearl_tree.specs.declared.typing.Typing.{Typing}
use Rattle.pearl_tree.specs.declared.token.Token.{Token}
use Rattle.pearl_tree.specs.Standing.{SpellsList}
use Rattle.pearl_tree.specs.Types as grammar
use Rattle.pearl_tree.specs.declared.symbol.TheConstants as s
use Rattle.pearl_tree.proofs.Offered.{spells_struct}
use Rattle.pearl_parse_expr.specs.declared.reading.Reading.{Reading}
use Rattle.pearl_parse_expr.specs.Reads.{ReadsOnly}
use Rattle.pearl_parse_expr.specs.Stops as stops
use Rattle.pearl_parse_expr.proofs.Offered.{ListRead, list_first, list_more, list_done, list_ended, list_none, halted}
use Rattle.pearl_parse_expr.proofs.Offered.{residual, listed, longest_read}
use Rattle.pearl_grammar.specs.Rules.{One, Then, End}
use Rattle.pearl_grammar.specs.Reached.{never}
use Rattle.pearl_grammar.proofs.Offered as fact
use Rattle.pearl_grammar.proofs.Offered.{begins, Walk, mark_read, token_read, only_read, part_read, part_taken, missing}
use Rattle.pearl_grammar.proofs.Offered.{part_missing, took_only, took_longest, took_maybe, took_list, lacks}
use Rattle.pearl_grammar.proofs.Offered.{lacks_first, longest, none_longest}
use Rattle.pearl_parse_decl.specs.Readings.{ReadsMaybePart, by_bracket}
use Rattle.pearl_parse_decl.proofs.Behind.{longest_is_read, none_read, no_memory_read, part_ends, part_unread}
use Rattle.pearl_parse_decl.proofs.Structs.{field_is_contained, struct_begun, struct_opened, typing_holds}
use Rattle.pearl_parse_decl.proofs.Types.{basic_of, only_name, struct_of}
use Rattle.pearl_parse_decl.proofs.typing.+typing.Goals as goal

pub typing-returns-in-Some : goal.typing-returns-in-Some
typing-returns-in-Some t c =
    record {
      spells = search rules;
      longest = λ others agree x to h.
          inl (only_name others c.args.depth c.args.from
          (ap stops.is_name (sym (agree c.args.from (omega arith)) ∙ c.in-Some.ensures.some.0)) x to h);
      ahead = search rules;
      refused = tt;
      least = search rules;
    }

pub typing-returns-in-Ok : goal.typing-returns-in-Ok
typing-returns-in-Ok t c =
    let read = c.in-Ok.ensures.reads in
    part_ends (typing_holds c.args.tokens.now c.args.depth c.args.from) (longest_is_read read) (search rules)
    (λ others agree x to h.
    let part = basic_of c.args.tokens.now others c.args.depth c.args.from c.in-Ok.basic.stop
    (c.in-None.ensures.none refl) (sym c.if-is_word.ensures.value) (omega (arith, read.ahead)) agree x to h in
    read.longest others agree part.0 to part.1) (search rules)

pub typing-returns-in-Err : goal.typing-returns-in-Err
typing-returns-in-Err t c =
    let none = c.in-Err.ensures.reads in
    longest_read _
    (part_unread (typing_holds c.args.tokens.now c.args.depth c.args.from)
    (halted grammar.SpellsBasic (λ tokens. grammar.SpellsTyping tokens c.args.depth) c.args.tokens.now c.args.from
    c.args.from c.in-Err.halt (omega arith)
    (λ others stop near agree x to h.
    let part = basic_of c.args.tokens.now others c.args.depth c.args.from stop (c.in-None.ensures.none refl)
    (sym c.if-is_word.ensures.value) near agree x to h in
    (part.0, to, part.1)) none.refused) none.refused none.least)

pub structure-returns-then-depth-eq0 : goal.structure-returns-then-depth-eq0
structure-returns-then-depth-eq0 t c =
    none_read (
      λ others agree x to h. omega (
        arith,
        (struct_of c.args.tokens.now others c.args.depth c.args.from c.args.from c.requires.word (omega arith) agree
            x to h).0,
      ),
      omega arith,
      c.requires.within,
    )
    (begins (λ tokens. grammar.SpellsTyping tokens c.args.depth) (fact.typing c.args.depth) 16 (omega arith) c.args.tokens.now
    c.args.from c.requires.within)

pub structure-returns-then-not-is_symbol : goal.structure-returns-then-not-is_symbol
structure-returns-then-not-is_symbol t c =
    none_longest _ (missing (stops.is_symbol s.LEFT_SQUARE)
    (struct_begun c.args.depth (omega (arith, c.if-depth-eq0.false)) c.args.tokens.now c.args.from c.requires.word
    (search rules)) (sym c.if-not-is_symbol.ensures.value) (refl, tt) (omega arith) (omega arith) (omega arith))

pub structure-returns-in_err-inner : goal.structure-returns-in_err-inner
structure-returns-in_err-inner t c =
    rw (residual c.in_err-inner.field-0.0 c.from_residual.result c.from_residual.ensures)
    (let none = c.in_err-inner.ensures in
    none_longest _ (part_missing
    (struct_opened c.args.depth (omega (arith, c.if-depth-eq0.false)) c.args.tokens.now c.args.from c.requires.word
    (search rules) (c.if-not-is_symbol.ensures.stands refl) (c.if-not-is_symbol.ensures.within refl))
    (lacks_first c.in_err-inner.field-0.0 none.refused none.least (omega arith)) (omega arith) (omega arith)))

pub structure-returns-then-not-is_symbol-2 : goal.structure-returns-then-not-is_symbol-2
structure-returns-then-not-is_symbol-2 t c =
    let read = c.in_ok-inner.ensures in
    none_longest _ (missing (stops.is_symbol s.RIGHT_SQUARE) (part_read
    (struct_opened c.args.depth (omega (arith, c.if-depth-eq0.false)) c.args.tokens.now c.args.from c.requires.word
    (search rules) (c.if-not-is_symbol.ensures.stands refl) (c.if-not-is_symbol.ensures.within refl))
    (took_list {new = c.in_ok-inner.inner.stop} read (omega (arith, read.ahead)) c.requires.within) (refl, tt) (omega arith)
    (omega arith) (omega arith)) (sym c.if-not-is_symbol-2.ensures.value) (refl, tt) (omega arith) (omega arith)
    (omega (arith, read.ahead)))

pub structure-returns : goal.structure-returns
structure-returns t c =
    let tokens = c.args.tokens.now in
    let depth = c.args.depth in
    let from = c.args.from in
    let inner = c.in_ok-inner.inner in
    let read = c.in_ok-inner.ensures in
    let deep : 0 < depth = omega (arith, c.if-depth-eq0.false) in
    let same = c.new.ensures ∙ ap (λ reading. reading.part.items) c.past-closed.ensures in
    rw c.past-closed.ensures (longest _ (token_read (part_read
    (struct_opened depth deep tokens from c.requires.word (search rules) (c.if-not-is_symbol.ensures.stands refl)
    (c.if-not-is_symbol.ensures.within refl))
    (took_list {new = inner.stop} read (omega (arith, read.ahead)) c.requires.within) (refl, tt) (omega arith) (omega arith)
    (omega arith)) refl (c.if-not-is_symbol-2.ensures.stands refl) (c.if-not-is_symbol-2.ensures.within refl)) refl
    (λ token h. absurd (true≢false (sym h))) (omega (arith, read.ahead))
    (subst (λ X. X) (sym (spells_struct tokens depth from c.new.result c.place_at.result (inner.end + 1))) (
      inner.end,
      c.place_at.ensures,
      c.requires.word,
      deep,
      c.if-not-is_symbol.ensures.stands refl,
      subst (λ xs. SpellsList tokens (grammar.SpellsField tokens (depth - 1)) (from + 2) xs inner.end) (sym same) read.spells,
      c.if-not-is_symbol-2.ensures.stands refl,
      refl,
    )))

pub fields-returns-in_err-first : goal.fields-returns-in_err-first
fields-returns-in_err-first t c =
    rw (residual c.in_err-first.field-0.0 c.from_residual.result c.from_residual.ensures)
    (list_none (λ tokens. grammar.SpellsField tokens c.args.depth) by_bracket
    (field_is_contained c.args.depth) c.args.tokens.now c.args.from c.in_err-first.field-0.0 c.in_err-first.ensures)

pub fields-each-init : goal.fields-each-init
fields-each-init t c =
    listed (ListRead (λ tokens. grammar.SpellsField tokens c.args.depth) by_bracket c.args.tokens.now c.args.from)
    c.in_ok-list.ensures.list
    (list_first (λ tokens. grammar.SpellsField tokens c.args.depth) by_bracket (field_is_contained c.args.depth) refl
    c.args.tokens.now c.args.from c.in_ok-first.first c.in_ok-first.ensures)

pub fields-each-preserved : goal.fields-each-preserved
fields-each-preserved t c =
    let list = c.each.list in
    listed (ListRead (λ tokens. grammar.SpellsField tokens c.args.depth) by_bracket c.args.tokens.now c.args.from)
    c.in_ok-add-in-Ok.ensures.added
    (list_more (λ tokens. grammar.SpellsField tokens c.args.depth) by_bracket (field_is_contained c.args.depth) refl
    c.args.tokens.now c.args.from list.part.items list.end list.stop c.in-Ok.next c.each.invariant
    (c.each-test.ensures.stands refl) c.in-Ok.ensures)

pub fields-returns-in-Err : goal.fields-returns-in-Err
fields-returns-in-Err t c =
    rw c.ended.ensures.value (list_ended (λ tokens. grammar.SpellsField tokens c.args.depth) by_bracket
    (field_is_contained c.args.depth) c.args.tokens.now c.args.from c.each.list c.in-Err.halt c.each.invariant
    (c.each-test.ensures.stands refl) c.in-Err.ensures)

pub fields-returns : goal.fields-returns
fields-returns t c =
    list_done (λ tokens. grammar.SpellsField tokens c.args.depth) by_bracket c.args.tokens.now c.args.from c.each.list
    c.each.invariant (sym c.each-test.ensures.value)

-- behind the names and the bounds
typed : (tokens : List Token) (depth from : ℕ) → from ≤ length tokens → length tokens < 2 ^ 55 → (names : Reading Names)
    (read : ReadsOnly 9 grammar.SpellsNames tokens from (Ok names)) (bounds : Reading (Parts Bound))
    (bounded : ReadsMaybePart 9 grammar.SpellsBounds by_bracket tokens names.end (Ok bounds)) (stop : ℕ) →
    stop ≡ max names.stop bounds.stop →
    Walk 16 (λ tokens. grammar.SpellsField tokens depth) tokens from 0 (Then (One Typing (λ tokens. grammar.SpellsTyping tokens
    depth)) End) (fact.typing depth, tt) never bounds.end stop
typed tokens depth from within few names read bounds bounded stop is =
    part_read
    (only_read (mark_read (fact.field_start depth tokens from within few))
    (took_only {new = names.stop} read (omega (arith, read.ahead)) within) (omega arith) (omega arith))
    (took_maybe {new = stop} bounded (omega (arith, is)) (omega (arith, read.ahead)))
    ((λ name. refl), (refl, (refl, (refl, (refl, (refl, (refl, tt))))))) (omega arith) (omega (arith, read.ahead)) (omega arith)

pub field-returns-in_err-names : goal.field-returns-in_err-names
field-returns-in_err-names t c =
    rw (residual c.in_err-names.field-0.0 c.from_residual.result c.from_residual.ensures)
    (let none = c.in_err-names.ensures in
    none_longest _ (part_missing (mark_read (fact.field_start c.args.depth c.args.tokens.now c.args.from c.requires (search rules)))
    (lacks_first c.in_err-names.field-0.0 none.refused none.least (omega arith)) (omega arith) (omega arith)))

pub field-returns-in_err-bounds : goal.field-returns-in_err-bounds
field-returns-in_err-bounds t c =
    rw (residual c.in_err-bounds.field-0.0 c.from_residual-in_err-bounds.result c.from_residual-in_err-bounds.ensures)
    (no_memory_read c.in_err-bounds.field-0.0 c.in_err-bounds.ensures.memory)

pub field-returns-in-Err : goal.field-returns-in-Err
field-returns-in-Err t c =
    let before = typed c.args.tokens.now c.args.depth c.args.from c.requires (search rules) c.in_ok-names.names
    c.in_ok-names.ensures c.in_ok-bounds.bounds c.in_ok-bounds.ensures.reads c.max-stop.result c.max-stop.ensures in
    none_longest _ (part_missing before (lacks c.in-Err.halt c.behind.result c.in-Err.ensures.refused c.in-Err.ensures.least
    c.behind.ensures.same before.inside) (omega (arith, before.level.near)) (omega arith))

pub field-returns : goal.field-returns
field-returns t c =
    let before = typed c.args.tokens.now c.args.depth c.args.from c.requires (search rules) c.in_ok-names.names
    c.in_ok-names.ensures c.in_ok-bounds.bounds c.in_ok-bounds.ensures.reads c.max-stop.result c.max-stop.ensures in
    let read = c.in-Ok.ensures in
    longest _ (part_taken before (took_longest {new = c.max.result} read c.max.ensures before.inside) tt
    (omega (arith, before.level.near)) (omega arith)) (omega (arith, c.max.ensures, read.ahead)) (λ token h. h)
    (omega (arith, before.level.near, read.ahead)) (search rules)
