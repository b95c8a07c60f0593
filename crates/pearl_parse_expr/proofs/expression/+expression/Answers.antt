-- Expressions and what they are made of: each is known from its parts, by the lemmas of its class.
use Rattle.std.proofs.Common.{◌≡◌, ◌+◌, ◌-◌, ◌<◌, inl, refl, sym, ap, subst, ◌∙◌, arith, rules}
use Rattle.pearl_tree.specs.Expressions as grammar
use Rattle.pearl_tree.specs.declared.symbol.TheConstants as s
use Rattle.pearl_tree.proofs.Offered.{spells_limit, spells_subscripts}
use Rattle.pearl_parse_expr.specs.Stops as spec
use Rattle.pearl_parse_expr.proofs.Closings.{group_unread, group_unclosed, group_closed, bracketed_unread}
use Rattle.pearl_parse_expr.proofs.Closings.{bracketed_unclosed, bracketed_closed}
use Rattle.pearl_parse_expr.proofs.CommaLists.{ListRead, list_first, list_more, list_done, list_ended, list_none}
use Rattle.pearl_parse_expr.proofs.Halts.{residual}
use Rattle.pearl_parse_expr.proofs.Joining.{expr_keeps}
use Rattle.pearl_parse_expr.proofs.Lists.{listed}
use Rattle.pearl_parse_expr.proofs.Loops.{SelectorsRead, selectors_none, selectors_more, selectors_ended}
use Rattle.pearl_parse_expr.proofs.Loops.{chain_one, chain_unread, chain_more, chain_read, chain_read_full, chain_ended}
use Rattle.pearl_parse_expr.proofs.Operands.{ref_unread, ref_read, operand_unread, operand_read, limit_read}
use Rattle.pearl_parse_expr.proofs.Operands.{number_read, number_missing}
use Rattle.pearl_parse_expr.proofs.Primaries.{clash, symbol_within, only_group, only_now, no_selector}
use Rattle.pearl_parse_expr.proofs.PrimariesBegin.{primary_begins, selector_begins, named_begins}
use Rattle.pearl_parse_expr.proofs.expression.+expression.Goals as goal

pub bracketed-returns-in_err-inner : goal.bracketed-returns-in_err-inner
bracketed-returns-in_err-inner t c =
    let halt = c.in_err-inner.field-0.0 in
    rw (residual halt c.from_residual.result c.from_residual.ensures) (bracketed_unread c.args.tokens.now c.args.depth
    c.args.from (search rules) c.requires.deep c.requires.bracket halt c.in_err-inner.ensures)

pub bracketed-returns-then-not-is_symbol : goal.bracketed-returns-then-not-is_symbol
bracketed-returns-then-not-is_symbol t c =
    bracketed_unclosed c.args.tokens.now c.args.depth c.args.from (search rules) c.requires.deep c.requires.bracket
    c.in_ok-inner.inner c.in_ok-inner.ensures (sym c.if-not-is_symbol.ensures.value)

pub bracketed-returns : goal.bracketed-returns
bracketed-returns t c =
    let inner = c.in_ok-inner.inner in
    let tokens = c.args.tokens.now in
    let depth = c.args.depth in
    let from = c.args.from in
    let closed = c.if-not-is_symbol.ensures.stands refl in
    let same = c.new.ensures ∙ ap (λ reading. reading.part.items) c.past-closed.ensures in
    rw c.past-closed.ensures (bracketed_closed tokens depth from (search rules) c.requires.deep c.requires.bracket inner
    c.in_ok-inner.ensures _ _ closed refl
    (subst (λ X. X) (sym (spells_subscripts tokens depth from c.new.result c.place_at.result (inner.end + 1))) (
      inner.end,
      c.place_at.ensures,
      c.requires.bracket,
      c.requires.deep,
      subst (λ xs. spec.SpellsSubscriptsList tokens (depth - 1) (from + 1) xs inner.end) (sym same)
          c.in_ok-inner.ensures.spells,
      closed,
      refl,
    )))

pub group-returns-then-depth-eq0 : goal.group-returns-then-depth-eq0
group-returns-then-depth-eq0 t c = record {
  spells = tt;
  longest = tt;
  ahead = tt;
  refused = (
    λ others agree x to h.
        let bracket = sym (agree c.args.from (omega arith)) ∙ c.requires.bracket in
        let read = only_group others c.args.depth c.args.from bracket x to h in
        omega (arith, read.0),
    omega arith,
    c.requires.within,
  );
  least = primary_begins c.args.tokens.now c.args.depth c.args.from c.requires.within;
}

pub group-expression_at_depth-requires : goal.group-expression_at_depth-requires
group-expression_at_depth-requires t c =
    let deep : 0 < c.args.depth = omega (arith, c.if-depth-eq0.false) in
    (search rules, omega (arith, symbol_within c.args.tokens.now c.args.from s.LEFT_ROUND c.requires.bracket))

pub group-returns-in_err-inner : goal.group-returns-in_err-inner
group-returns-in_err-inner t c =
    let halt = c.in_err-inner.field-0.0 in
    rw (residual halt c.from_residual.result c.from_residual.ensures) (group_unread c.args.tokens.now c.args.depth
    c.args.from (search rules) (omega (arith, c.if-depth-eq0.false)) c.requires.bracket halt c.in_err-inner.ensures)

pub group-returns-then-not-is_symbol : goal.group-returns-then-not-is_symbol
group-returns-then-not-is_symbol t c =
    group_unclosed c.args.tokens.now c.args.depth c.args.from (search rules) (omega (arith, c.if-depth-eq0.false))
    c.requires.bracket c.in_ok-inner.inner c.in_ok-inner.ensures (sym c.if-not-is_symbol.ensures.value)

pub group-returns : goal.group-returns
group-returns t c =
    let inner = c.in_ok-inner.inner in
    let same : c.past-closed.result.part ≡ inner.part = ap (λ reading. reading.part) c.past-closed.ensures in
    rw c.past-closed.ensures (group_closed c.args.tokens.now c.args.depth c.args.from (search rules)
    (omega (arith, c.if-depth-eq0.false)) c.requires.bracket inner c.in_ok-inner.ensures _ _
    (c.if-not-is_symbol.ensures.stands refl) refl (search rules))

pub expression_at_depth-returns-in_err-first : goal.expression_at_depth-returns-in_err-first
expression_at_depth-returns-in_err-first t c =
    let halt = c.in_err-first.field-0.0 in
    rw (residual halt c.from_residual.result c.from_residual.ensures) (chain_unread c.args.tokens.now c.args.depth
    c.args.from halt c.in_err-first.ensures)

pub expression_at_depth-each-init : goal.expression_at_depth-each-init
expression_at_depth-each-init t c =
    chain_one c.args.tokens.now c.args.depth c.args.from c.in_ok-first.first c.in_ok-first.ensures

pub expression_at_depth-returns-in-None : goal.expression_at_depth-returns-in-None
expression_at_depth-returns-in-None t c =
    chain_read c.args.tokens.now c.args.depth c.args.from c.each.read c.each.count c.each.invariant
    (c.in-None.ensures.none refl)

pub expression_at_depth-returns : goal.expression_at_depth-returns
expression_at_depth-returns t c =
    chain_read_full c.args.tokens.now c.args.depth c.args.from c.each.read c.each.count c.each.invariant
    (omega (arith, c.each-test.false))

pub expression_at_depth-returns-in-Err : goal.expression_at_depth-returns-in-Err
expression_at_depth-returns-in-Err t c =
    rw c.ended.ensures.value (chain_ended c.args.tokens.now c.args.depth c.args.from c.each.read c.each.count
    c.each.invariant c.in-Some.dyadic (omega (arith, c.each-test.true)) c.in-Some.ensures.some c.in-Some.ensures.place
    c.in-Err.halt c.in-Err.ensures)

pub expression_at_depth-each-preserved : goal.expression_at_depth-each-preserved
expression_at_depth-each-preserved t c =
    let tokens = c.args.tokens.now in
    let list = c.each.read in
    let next = c.in-Ok.next in
    let read = c.in-Ok.ensures in
    let dyadic = c.in-Some.ensures in
    let whole = c.in_ok-read-in-Ok.ensures in
    chain_more tokens c.args.depth c.args.from list c.each.count c.each.invariant
    c.in-Some.dyadic (omega (arith, c.each-test.true)) dyadic.some dyadic.place next _ _
    c.max.ensures
    (whole.spells tokens c.args.depth c.args.from list.end next.end c.each.invariant.spells dyadic.some dyadic.place
    read.spells) whole.count read

pub limit-returns-in_ok-array-in-Ok : goal.limit-returns-in_ok-array-in-Ok
limit-returns-in_ok-array-in-Ok t c =
    let tokens = c.args.tokens.now in
    let depth = c.args.depth in
    let from = c.args.from in
    let head = c.args.head in
    let array = c.in_ok-array-in-Ok.array in
    let read = c.in-Ok.read in
    limit_read tokens depth from head.word head.dimension head.side c.requires.dimension c.requires.word (search rules)
    read _ c.in-Ok.ensures
    (subst (λ X. X) (sym (spells_limit tokens depth from head.dimension head.side array c.place_at.result read.end)) (
      head.word,
      c.place_at.ensures,
      c.requires.dimension,
      c.requires.word,
      subst (λ part. grammar.SpellsRef tokens depth (head.word + 1) part read.end)
          (sym c.in_ok-array-in-Ok.ensures.value)
          c.in-Ok.ensures.spells,
    ))

pub limit-returns-in-Some : goal.limit-returns-in-Some
limit-returns-in-Some t c =
    let head = c.args.head in
    number_read c.args.tokens.now c.args.depth c.args.from head.word head.dimension head.side c.requires.dimension
    c.requires.word (search rules) c.in-Err.halt c.in-Refused.stop c.in-Refused.is c.in-Err.ensures c.in-Some.number
    c.in-Some.is

pub limit-returns-in-None : goal.limit-returns-in-None
limit-returns-in-None t c =
    let head = c.args.head in
    number_missing c.args.tokens.now c.args.depth c.args.from head.word head.dimension head.side c.requires.dimension
    c.requires.word (search rules) c.in-Err.halt c.in-Refused.stop c.in-Refused.is c.in-Err.ensures c.in-None.is

pub operand-returns-in-Err : goal.operand-returns-in-Err
operand-returns-in-Err t c =
    let read = c.in_ok-monadics.ensures in
    operand_unread c.args.tokens.now c.args.depth c.args.from c.in_ok-monadics.monadics read.reads read.once
    c.in-Err.halt c.in-Err.ensures

pub operand-returns-in-Ok : goal.operand-returns-in-Ok
operand-returns-in-Ok t c =
    let read = c.in_ok-monadics.ensures in
    operand_read c.args.tokens.now c.args.depth c.args.from c.in_ok-monadics.monadics read.reads read.once
    c.in-Ok.primary _ c.in-Ok.ensures (search rules)

pub primary-returns-in-Err : goal.primary-returns-in-Err
primary-returns-in-Err t c =
    ref_unread c.args.tokens.now c.args.depth c.args.from (search rules) (sym c.if-is_name.ensures) c.in-Err.halt
    c.in-Err.ensures

pub primary-returns-in-Ok : goal.primary-returns-in-Ok
primary-returns-in-Ok t c =
    ref_read c.args.tokens.now c.args.depth c.args.from (search rules) (sym c.if-is_name.ensures) c.in-Ok.reference
    c.in-Ok.ensures

pub primary-returns-then-is_word-2 : goal.primary-returns-then-is_word-2
primary-returns-then-is_word-2 t c = c.availability.ensures.reads c.args.depth

pub primary-returns-in-None : goal.primary-returns-in-None
primary-returns-in-None t c = c.literal_primary.ensures c.args.depth

pub primary-returns-then-is_word : goal.primary-returns-then-is_word
primary-returns-then-is_word t c = record {
  spells = search rules;
  longest = λ others agree x to h.
      let stands = sym (agree c.args.from (omega arith)) ∙ c.if-is_word.ensures.stands refl in
      inl (only_now others c.args.depth c.args.from stands x to h);
  ahead = search rules;
  refused = tt;
  least = record { goes = inl refl };
}

pub selector-returns-then-is_symbol : goal.selector-returns-then-is_symbol
selector-returns-then-is_symbol t c = c.component.ensures.reads c.args.depth

pub selector-returns : goal.selector-returns
selector-returns t c =
    let from = c.args.from in
    record {
      spells = tt;
      only = tt;
      ahead = tt;
      refused = (
        λ others agree x to h.
            let here = sym (agree from (omega arith)) in
            no_selector others c.args.depth from (ap (spec.is_symbol s.PERIOD) here ∙ sym c.if-is_symbol.ensures.value)
            (λ stands deep. elim c.else-depth-gt0.branch [
              | goal.selector-else-depth-gt0-via-then-depth-gt0+else-is_symbol-2 w
                  ↦ clash _ stands (ap (spec.is_symbol s.LEFT_ROUND) here ∙ sym w.if-is_symbol-2.ensures.value)
              | goal.selector-else-depth-gt0-via-else-depth-gt0 w ↦ omega (arith, deep, w.if-depth-gt0.false)
            ])
            x to h,
        omega arith,
        c.requires,
      );
      least = selector_begins c.args.tokens.now c.args.depth from c.requires;
    }

pub reference-returns-in-None : goal.reference-returns-in-None
reference-returns-in-None t c = record {
  spells = tt;
  longest = tt;
  ahead = tt;
  refused = search rules;
  least = named_begins c.args.tokens.now c.args.depth c.args.from c.requires;
}

pub selectors-each-init : goal.selectors-each-init
selectors-each-init t c =
    listed (SelectorsRead c.args.tokens.now c.args.depth c.args.from) c.none-list.ensures
    (selectors_none c.args.tokens.now c.args.depth c.args.from c.requires)

pub selectors-each-preserved : goal.selectors-each-preserved
selectors-each-preserved t c =
    let list = c.each.list in
    listed (SelectorsRead c.args.tokens.now c.args.depth c.args.from) c.in_ok-add-in-Ok.ensures.added
    (selectors_more c.args.tokens.now c.args.depth c.args.from list.part.items list.end list.stop c.each.invariant
    c.in-Ok.next c.in-Ok.ensures)

pub selectors-returns-in-Err-clause-reads : goal.selectors-returns-in-Err-clause-reads
selectors-returns-in-Err-clause-reads t c =
    rw c.ended.ensures.value (selectors_ended c.args.tokens.now c.args.depth c.args.from c.each.list c.each.invariant
    c.in-Err.halt c.in-Err.ensures)

pub subscripts-each-init : goal.subscripts-each-init
subscripts-each-init t c =
    let depth = c.args.depth in
    listed (ListRead (λ tokens. grammar.SpellsExpr tokens depth) spec.extends_expression c.args.tokens.now c.args.from)
    c.in_ok-list.ensures.list
    (list_first (λ tokens. grammar.SpellsExpr tokens depth) spec.extends_expression (expr_keeps depth) refl
    c.args.tokens.now c.args.from c.in_ok-first.first c.in_ok-first.ensures)

pub subscripts-each-preserved : goal.subscripts-each-preserved
subscripts-each-preserved t c =
    let list = c.each.list in
    let depth = c.args.depth in
    listed (ListRead (λ tokens. grammar.SpellsExpr tokens depth) spec.extends_expression c.args.tokens.now c.args.from)
    c.in_ok-add-in-Ok.ensures.added
    (list_more (λ tokens. grammar.SpellsExpr tokens depth) spec.extends_expression (expr_keeps depth) refl
    c.args.tokens.now c.args.from list.part.items list.end list.stop c.in-Ok.next c.each.invariant
    (c.each-test.ensures.stands refl) c.in-Ok.ensures)

pub subscripts-returns-in_err-first : goal.subscripts-returns-in_err-first
subscripts-returns-in_err-first t c =
    let halt = c.in_err-first.field-0.0 in
    rw (residual halt c.from_residual.result c.from_residual.ensures) (list_none
    (λ tokens. grammar.SpellsExpr tokens c.args.depth) spec.extends_expression (expr_keeps c.args.depth)
    c.args.tokens.now c.args.from halt c.in_err-first.ensures)

pub subscripts-returns-in-Err : goal.subscripts-returns-in-Err
subscripts-returns-in-Err t c =
    rw c.ended.ensures.value (list_ended (λ tokens. grammar.SpellsExpr tokens c.args.depth) spec.extends_expression
    (expr_keeps c.args.depth) c.args.tokens.now c.args.from c.each.list c.in-Err.halt c.each.invariant
    (c.each-test.ensures.stands refl) c.in-Err.ensures)

pub subscripts-returns : goal.subscripts-returns
subscripts-returns t c =
    list_done (λ tokens. grammar.SpellsExpr tokens c.args.depth) spec.extends_expression c.args.tokens.now c.args.from
    c.each.list c.each.invariant (sym c.each-test.ensures.value)
