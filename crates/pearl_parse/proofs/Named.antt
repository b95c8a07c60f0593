-- Assignments and calls: how far their readers have come. Of what begins with a name the token behind its reference tells
-- which it is.
use Rattle.std.proofs.Common.{◌≡◌, ℕ, ◌+◌, ◌<◌, ◌^◌, ◌⊎◌, inl, inr, max, Bool, true, false, List, [], ◌∷◌, length}
use Rattle.std.proofs.Common.{Option, Some, None, Vec, Ok, T, eqb, option_map, slice_get, refl, sym, ap, subst, ◌∙◌, arith}
use Rattle.pearl_tree.specs.declared.parts.Parts.{Parts}
use Rattle.pearl_tree.specs.declared.expression.Expr.{Expr}
use Rattle.pearl_tree.specs.declared.expression.Ref.{Ref}
use Rattle.pearl_tree.specs.declared.expression.Selector.{Selector, Subscripts}
use Rattle.pearl_tree.specs.declared.statement.Stmt.{Stmt, Assign, Call}
use Rattle.pearl_tree.specs.declared.token.What.TheVariants as what
use Rattle.pearl_tree.specs.declared.token.Token.{Token}
use Rattle.pearl_tree.specs.declared.symbol.TheConstants as s
use Rattle.pearl_tree.specs.declared.word_code.TheConstants as w
use Rattle.pearl_tree.specs.Standing.{what_at, IsAt, HasWord, HasSymbol, IsName, SpellsFlag, SpellsEach, SpellsList}
use Rattle.pearl_tree.specs.Standing.{SpellsMaybeBracketed}
use Rattle.pearl_tree.specs.Expressions.{SpellsWhole, SpellsOwnRef, SpellsSelector}
use Rattle.pearl_tree.specs.Statements.{HasBecomes, SpellsStmt}
use Rattle.pearl_tree.specs.Stops.{BeginAlike}
use Rattle.pearl_tree.proofs.Offered.{spells_subscripts}
use Rattle.pearl_parse_expr.specs.declared.reading.Halt.{Halt}
use Rattle.pearl_parse_expr.specs.declared.reading.Halt.TheVariants.{Refused, NoMemory}
use Rattle.pearl_parse_expr.specs.declared.reading.Reading.{Reading}
use Rattle.pearl_parse_expr.specs.Stops.{IsHalted, extends_expression, extends_operand, is_name, is_word}
use Rattle.pearl_parse_expr.specs.Reads.{Reads, ReadsMaybeList}
use Rattle.pearl_parse_expr.proofs.Offered.{clash, parts_of}
use Rattle.pearl_parse_decl.specs.Readings.{by_bracket}
use Rattle.pearl_parse_decl.proofs.Offered.{settled}
use Rattle.pearl_grammar.specs.Rules.{One, MaybeBracketed, Rule, Then}
use Rattle.pearl_grammar.specs.Declarations.{id, close}
use Rattle.pearl_grammar.specs.Reached.{never}
use Rattle.pearl_grammar.specs.Statements as rule
use Rattle.pearl_grammar.proofs.Offered.{Facts, Walk, Lacks, mark_read, one_read, part_read, missing, took_longest, took_flag}
use Rattle.pearl_grammar.proofs.Offered.{took_maybe_list, OfKind, of_one_kind, no_other_kind, assign_facts, assign_starts}
use Rattle.pearl_grammar.proofs.Offered.{call_facts, call_starts}
use Rattle.pearl_parse.specs.Stops.{SpellsOwnNamed}
use Rattle.pearl_parse.specs.Calls.{is_becomes}
use Rattle.pearl_parse.specs.Reads.{ReadsBehind}
use Rattle.pearl_parse.proofs.Along.{took_as, name_read}
use Rattle.pearl_parse.proofs.ByFirst.{group, of_kind}

-- ---- the name and the arguments of a call, as a reference

module _ (others : List Token) where
  place_of : (k symbol : ℕ) → HasSymbol others k symbol → (place : ℕ) × IsAt others k place
  place_of k symbol h = by (slice_get others k) h
    where
      by : (o : Option Token) → option_map (λ (token : Token). token.what) o ≡ Some (what.Symbol symbol) →
          (place : ℕ) × (option_map (λ (token : Token). token.place) o ≡ Some place)
      by None e = absurd (let e = e in cc e)
      by (Some token) e = (token.place, refl)

  as_selectors : (from : ℕ) (arguments : Parts Expr) (to : ℕ) →
      SpellsMaybeBracketed others (SpellsWhole others) from arguments.items.items to →
      (xs : Parts Selector) × SpellsEach (SpellsSelector others 33) from xs.items.items to
  as_selectors from arguments to h = by arguments.items.items refl h
    where
      by : (ys : List Expr) → arguments.items.items ≡ ys → SpellsMaybeBracketed others (SpellsWhole others) from ys to →
          (xs : Parts Selector) × SpellsEach (SpellsSelector others 33) from xs.items.items to
      by [] e h = (parts_of [] (omega arith), h)
      by (y ∷ ys) e h =
          let place = place_of from s.LEFT_ROUND h.1 in
          let list = subst (λ zs. SpellsList others (SpellsWhole others) (from + 1) zs h.0) (sym e) h.2 in
          let selector = subst (λ X. X) (sym (spells_subscripts others 33 from arguments place.0 to))
          (h.0, place.1, h.1, omega arith, list, h.3, h.4) in
          (parts_of (Subscripts arguments place.0 ∷ []) (omega arith), (to, selector, refl))

  -- it has no CALL
  without_call : (from : ℕ) (call : Bool) (a : ℕ) → is_name (what_at others from) ≡ true →
      SpellsFlag others w.CALL from call a → a ≡ from
  without_call from false a named h = h
  without_call from true a named h = absurd (clash _ named (ap is_name h.0))

-- what begins as calls and assignments do is one of them
abbrev IsEither : List Token → ℕ → ℕ → ℕ → Type 0
IsEither others depth from to =
    ((x : _) × SpellsStmt others depth from (Call x) to) ⊎ ((x : _) × SpellsStmt others depth from (Assign x) to)

either : (others : List Token) (depth from : ℕ) (a : Stmt) (to : ℕ) → T (eqb (group a) 1) →
    SpellsStmt others depth from a to → IsEither others depth from to
either others depth from (Call part) to e h = inl (part, h)
either others depth from (Assign part) to e h = inr (part, h)
either others depth from a to e h = absurd e

module _ (tokens : List Token) (depth from : ℕ) (inside : from < length tokens) (few : length tokens < 2 ^ 55) where
  abbrev pub At : (rule : Rule) → Facts rule → ℕ → ℕ → Type 0
  At rule facts = Walk 24 (λ tokens. SpellsStmt tokens depth) tokens from 0 rule facts never

  -- ---- CALL

  only_call : (others : List Token) (a : Stmt) (to : ℕ) → HasWord others from w.CALL → SpellsStmt others depth from a to →
      (x : _) × SpellsStmt others depth from (Call x) to
  only_call others a to word h =
      by (either others depth from a to (of_kind others depth from 1 (what.Word w.CALL) word refl a to h) h)
    where
      by : IsEither others depth from to → (x : _) × SpellsStmt others depth from (Call x) to
      by (inl call) = call
      by (inr assign) = absurd (clash _ (ap is_name assign.1.3.1.0) (ap is_name word))

  pub call_begun : HasWord tokens from w.CALL →
      At (Then id (Then (MaybeBracketed rule.expression) close)) call_facts.1 (from + 1) (from + 1)
  call_begun here = of_one_kind Call (part_read (mark_read (call_starts depth tokens from (omega arith) few))
      (took_flag {inner = 0} true (ap (is_word w.CALL) here) (here, refl) (omega arith) (omega arith) refl (omega arith) (omega arith))
      ((λ name. refl), tt) (omega arith) (omega arith) (omega arith))
      (λ others agree a to h. only_call others a to (sym (agree from (omega arith)) ∙ here) h)

  -- the arguments
  pub past_arguments : {A : Type 0} {y : Reading (Vec Expr A)} {at stop new : ℕ} →
      At (Then (MaybeBracketed rule.expression) close) call_facts.1.1 at stop →
      ReadsMaybeList 9 (λ tokens. SpellsMaybeBracketed tokens (SpellsWhole tokens)) by_bracket tokens at (Ok y) →
      new ≡ max y.stop stop → At close call_facts.1.1.1 y.end new
  past_arguments {A} {y} {at} {stop} {new} a read is =
      part_read a (took_maybe_list {new = new} read is (omega (arith, a.inside))) (refl, tt) (omega arith)
      (omega (arith, a.level.near)) (omega arith)

  -- ---- what begins with a name

  -- a reference is read of it, or there is no memory
  pub no_target : (halt : Halt) → is_name (what_at tokens from) ≡ true → IsHalted SpellsOwnNamed tokens from halt →
      Lacks 24 (λ tokens. SpellsStmt tokens depth) tokens from 0 halt
  no_target NoMemory name h = record { refused = tt; least = tt }
  no_target (Refused stop) name h = absurd (h.0 tokens (λ k below. refl) [] (from + 1) (name, refl))

  module _ {x : Reading Ref} (read : Reads 16 SpellsOwnRef extends_operand tokens from (Ok x)) where
    each : (others : List Token) → BeginAlike tokens others x.stop → (a : Stmt) (to : ℕ) →
        SpellsStmt others depth from a to → IsEither others depth from to
    each others agree a to h =
        either others depth from a to (of_kind others depth from 1 (what.Id x.part.name.text)
        (sym (agree from (omega (arith, read.ahead))) ∙ read.spells.1.0) refl a to h) h

    -- ref
    past_target : Walk 24 (OfKind (λ tokens. SpellsStmt tokens depth) Assign) tokens from 0
        (Then (One (Unit {0}) rule.SpellsBecomes) (Then rule.expression close)) assign_facts.1 never x.end x.stop
    past_target = part_read (mark_read (assign_starts depth tokens from (omega arith) few))
        (took_longest {new = x.stop} read (omega (arith, read.ahead)) (omega arith)) (refl, (refl, tt)) (omega arith)
        (omega arith) (omega arith)

    -- a call ends where the longest reference does
    no_call : is_becomes (what_at tokens x.end) ≡ true → (others : List Token) → BeginAlike tokens others x.stop →
        (part : _) (to : ℕ) → SpellsStmt others depth from (Call part) to → ⊥
    no_call here others agree part to h =
        let named = ap is_name (sym (agree from (omega (arith, read.ahead))) ∙ read.spells.1.0) in
        let start = without_call others from part.value.call h.0 named h.3 in
        let arguments = subst (λ k. SpellsMaybeBracketed others (SpellsWhole others) (k + 1)
        part.value.arguments.items.items h.1) start h.5 in
        let list = as_selectors others (from + 1) part.value.arguments h.1 arguments in
        let end : h.1 ≡ x.end = settled extends_operand others x.end h.1 (read.longest others agree
        (record { name = part.value.name; selectors = list.0; place = part.value.place }) h.1
        (h.2, subst (λ k. IsName others k part.value.name) start h.4, list.1)) (ap extends_operand h.6) in
        clash _ (ap is_becomes (sym (agree x.end (omega (arith, read.ahead)))) ∙ here)
        (ap is_becomes (subst (λ k. HasSymbol others k s.SEMICOLON) end h.6))

    -- ref ":="
    pub past_becomes : is_becomes (what_at tokens x.end) ≡ true → HasBecomes tokens x.end → x.end < length tokens →
        At (Then rule.expression close) assign_facts.1.1 (x.end + 1) x.stop
    past_becomes is here within = of_one_kind Assign
        (one_read {y = tt} past_target (λ others k y to h. h.1) refl (here, refl) within)
        (λ others agree a to h. by others agree to (each others agree a to h))
      where
        by : (others : List Token) → BeginAlike tokens others x.stop → (to : ℕ) → IsEither others depth from to →
            (x : _) × SpellsStmt others depth from (Assign x) to
        by others agree to (inl call) = absurd (no_call is others agree call.0 to call.1)
        by others agree to (inr assign) = assign

    -- ref ":=" expr
    pub past_value : is_becomes (what_at tokens x.end) ≡ true → HasBecomes tokens x.end → x.end < length tokens →
        {y : Reading Expr} → ReadsBehind 16 SpellsWhole SpellsWhole SpellsWhole extends_expression tokens (x.end + 1)
        (x.end + 1 + 1) x.stop (Ok y) → At close assign_facts.1.1.1 y.end y.stop
    past_value is here within value = part_read (past_becomes is here within) (took_as (omega arith) value)
        (refl, tt) (omega arith) (omega (arith, read.ahead)) (omega arith)

    -- id, where the reference ends before no `:=`
    pub past_named : is_becomes (what_at tokens x.end) ≡ false →
        At (Then (MaybeBracketed rule.expression) close) call_facts.1.1 (from + 1) x.stop
    past_named other = no_other_kind Call (name_read (part_read
        (mark_read (call_starts depth tokens from (omega arith) few)) (took_flag {inner = 0} {end = from} {new = from} false
        (ap (is_word w.CALL) read.spells.1.0) refl (omega arith) (omega arith) refl (omega arith) (omega arith)) ((λ name. refl), tt)
        (omega arith) (omega arith) (omega arith)) refl read.spells.1 inside) Assign
        (missing is_becomes past_target other (refl, (refl, tt)) (omega arith) (omega arith) (omega (arith, read.ahead)))
        (omega (arith, read.ahead)) each
