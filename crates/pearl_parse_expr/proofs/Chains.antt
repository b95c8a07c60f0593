-- Operands with operators between them: what other tokens can spell that begin as these do, read up to some operand.
use Rattle.std.proofs.Common.{◌≡◌, ℕ, zero, suc, ◌+◌, ◌<◌, ◌≤◌, Bool, true, false, ◌||◌, List, Option, Some, None}
use Rattle.std.proofs.Common.{is_some, ◌⊎◌, inl, inr, refl, sym, ap, subst, ◌∙◌, arith, true≢false, eqb-true, ◌==◌}
use Rattle.std.specs.Option.{option_and_then}
use Rattle.pearl_value.specs.declared.operator.Dyad.{Dyad}
use Rattle.pearl_tree.specs.declared.expression.Expr.{Expr, Operand', Dyadic'}
use Rattle.pearl_tree.specs.declared.expression.Primary.{Primary}
use Rattle.pearl_tree.specs.declared.token.What.{What}
use Rattle.pearl_tree.specs.declared.token.What.TheVariants as what
use Rattle.pearl_tree.specs.declared.token.Token.{Token}
use Rattle.pearl_tree.specs.Standing.{what_at}
use Rattle.pearl_tree.specs.Expressions.{SpellsTerms, SpellsExpr, HasDyad, dyad_of, dyad_count}
use Rattle.pearl_tree.specs.declared.word_code.TheConstants as w
use Rattle.pearl_tree.specs.declared.symbol.TheConstants as s
use Rattle.pearl_parse_expr.specs.declared.reading.Halt.{Halt}
use Rattle.pearl_parse_expr.specs.declared.reading.Halt.TheVariants.{Refused, NoMemory}
use Rattle.pearl_tree.specs.Following.{lengthens_operand}
use Rattle.pearl_tree.specs.Stops.{BeginAlike}
use Rattle.pearl_parse_expr.specs.Stops.{IsHalted, IsLongest, Stuck, EndsEarly, extends_operand, extends_expression}
use Rattle.pearl_parse_expr.specs.Stops.{SpellsSigned}
use Rattle.pearl_parse_expr.proofs.Primaries.{clash, or_absurd}
use Rattle.pearl_parse_expr.proofs.Parts.{shorter, or_first, or_second}

abbrev pub is_dyad : Option What → Bool
is_dyad token = is_some (option_and_then dyad_of token)

-- { dyadic operand }, this many times
abbrev pub Rest : List Token → ℕ → ℕ → ℕ → ℕ → Type 0
Rest tokens depth zero from to = to ≡ from
Rest tokens depth (suc n) from to =
    (m : ℕ) × (is_dyad (what_at tokens from) ≡ true) × ((x : Primary) × SpellsSigned tokens depth (from + 1) x m) ×
    Rest tokens depth n m to

join : (tokens : List Token) (depth a b from m to : ℕ) → Rest tokens depth a from m → Rest tokens depth b m to →
    Rest tokens depth (a + b) from to
join tokens depth zero b from m to h rest =
    let none : b ≡ zero + b = omega arith in
    subst (λ n. Rest tokens depth n from to) none (subst (λ k. Rest tokens depth b k to) h rest)
join tokens depth (suc a) b from m to h rest =
    let more : suc (a + b) ≡ suc a + b = omega arith in
    subst (λ n. Rest tokens depth n from to) more (h.0, h.1, h.2, join tokens depth a b h.0 m to h.3 rest)

pub flat : (tokens : List Token) (depth from : ℕ) (x : Expr) (to : ℕ) → SpellsTerms tokens depth from x to →
    (m : ℕ) × ((x : Primary) × SpellsSigned tokens depth from x m) × Rest tokens depth (dyad_count x) m to
flat tokens depth from (Operand' monadics part place) to h =
    (to, (part, (h.0, monadics.items.items, (h.2, h.3), h.4)), refl)
flat tokens depth from (Dyadic' _ left dyadic _ right place) to h =
    let first = flat tokens depth from left h.0 h.2 in
    let second = flat tokens depth (h.0 + 1) right to h.5 in
    let count : dyad_count left + suc (dyad_count right) ≡ dyad_count left + dyad_count right + 1 = omega arith in (
      first.0,
      first.1,
      subst (λ n. Rest tokens depth n first.0 to) count
          (join tokens depth (dyad_count left) (suc (dyad_count right)) first.0 h.0 to first.2
          (second.0, ap is_some h.3, second.1, second.2)),
    )

operand_extends : (token : Option What) → extends_operand token ≡ true → extends_expression token ≡ true
operand_extends None h = absurd (true≢false (sym h))
operand_extends (Some token) h = or_first (lengthens_operand token) (is_some (dyad_of token)) h

dyad_extends : (token : Option What) → is_dyad token ≡ true → extends_expression token ≡ true
dyad_extends None h = absurd (true≢false (sym h))
dyad_extends (Some token) h = or_second (lengthens_operand token) (is_some (dyad_of token)) h

-- an operator does not go on with an operand
dyad_is_behind : (token : Option What) → extends_operand token ≡ true → is_dyad token ≡ true → ⊥
dyad_is_behind (Some (what.Word code)) extends dyad =
    let none = λ (k : ℕ) (no_dyad : is_dyad (Some (what.Word k)) ≡ false) (h : (code == k) ≡ true).
    clash _ dyad (ap (λ k. is_dyad (Some (what.Word k))) (eqb-true code k h) ∙ no_dyad) in
    or_absurd (code == w.HRS) ((code == w.MIN) || ((code == w.SEC) || ((code == w.LWB) || (code == w.UPB))))
    (none w.HRS refl)
    (or_absurd (code == w.MIN) ((code == w.SEC) || ((code == w.LWB) || (code == w.UPB))) (none w.MIN refl)
    (or_absurd (code == w.SEC) ((code == w.LWB) || (code == w.UPB)) (none w.SEC refl)
    (or_absurd (code == w.LWB) (code == w.UPB) (none w.LWB refl) (none w.UPB refl)))) extends
dyad_is_behind (Some (what.Id text)) extends dyad = true≢false (sym extends)
dyad_is_behind (Some (what.Number value)) extends dyad = true≢false (sym dyad)
dyad_is_behind (Some (what.Decimal whole thousandths)) extends dyad = true≢false (sym dyad)
dyad_is_behind (Some (what.Clock milliseconds)) extends dyad = true≢false (sym extends)
dyad_is_behind (Some (what.Bits len value)) extends dyad = true≢false (sym extends)
dyad_is_behind (Some (what.Text text)) extends dyad = true≢false (sym extends)
dyad_is_behind (Some (what.Symbol symbol)) extends dyad =
    or_absurd (symbol == s.LEFT_ROUND) (symbol == s.PERIOD)
    (λ h. clash _ dyad (ap (λ k. is_dyad (Some (what.Symbol k))) (eqb-true symbol s.LEFT_ROUND h)))
    (λ h. clash _ dyad (ap (λ k. is_dyad (Some (what.Symbol k))) (eqb-true symbol s.PERIOD h))) extends
dyad_is_behind None extends dyad = true≢false (sym extends)

-- a chain from `from` ends early, or goes through `end` with all but `count` of its operators
abbrev pub ChainGoes : List Token → ℕ → ℕ → ℕ → ℕ → ℕ → Type 0
ChainGoes tokens depth from end stop count =
    (others : List Token) → BeginAlike tokens others stop → (m n to : ℕ) (x : Primary) →
    SpellsSigned others depth from x m → Rest others depth n m to →
    EndsEarly extends_expression others end to ⊎ ((j : ℕ) × (count + j ≡ n) × Rest others depth j end to)

module _ (tokens : List Token) (depth from : ℕ) where
  -- behind one more operand
  after_operand : (others : List Token) (end m to count j n : ℕ) → Rest others depth j m to → count + j ≡ n →
      (m ≡ end) ⊎ EndsEarly extends_operand others end m →
      EndsEarly extends_expression others end to ⊎ ((j : ℕ) × (count + j ≡ n) × Rest others depth j end to)
  after_operand others end m to count j n h size (inl same) = inr (
    j,
    size,
    subst (λ k. Rest others depth j k to) same h,
  )
  after_operand others end m to count zero n h size (inr early) =
      inl (
        omega (arith, h, early.0),
        subst (λ k. extends_expression (what_at others k) ≡ true) (sym h)
            (operand_extends (what_at others m) early.1),
      )
  after_operand others end m to count (suc j) n h size (inr early) =
      absurd (dyad_is_behind (what_at others m) early.1 h.1)

  pub chain_begins : (end stop : ℕ) →
      IsLongest (λ tokens. SpellsSigned tokens depth) extends_operand tokens from end stop →
      ChainGoes tokens depth from end stop 0
  chain_begins end stop longest = λ others agree m n to x first rest.
      after_operand others end m to 0 n n rest (omega arith) (longest others agree x m first)

  step : (others : List Token) (end next count n to : ℕ) → end < next → is_dyad (what_at others end) ≡ true →
      ((x : Primary) (to : ℕ) → SpellsSigned others depth (end + 1) x to →
      (to ≡ next) ⊎ EndsEarly extends_operand others next to) →
      EndsEarly extends_expression others end to ⊎ ((j : ℕ) × (count + j ≡ n) × Rest others depth j end to) →
      EndsEarly extends_expression others next to ⊎ ((j : ℕ) × (count + 1 + j ≡ n) × Rest others depth j next to)
  step others end next count n to ahead dyad longest (inl early) = inl (omega (arith, early.0), early.1)
  step others end next count n to ahead dyad longest (inr (zero, size, h)) =
      inl (
        omega (arith, h),
        subst (λ k. extends_expression (what_at others k) ≡ true) (sym h)
            (dyad_extends (what_at others end) dyad),
      )
  step others end next count n to ahead dyad longest (inr (suc j, size, h)) =
      after_operand others next h.0 to (count + 1) j n h.3 (omega arith) (longest h.2.0 h.0 h.2.1)

  pub chain_goes_on : (end stop next last new count : ℕ) (operator : Dyad) →
      ChainGoes tokens depth from end stop count →
      end ≤ stop → end < next → stop ≤ new → last ≤ new → HasDyad tokens end operator →
      IsLongest (λ tokens. SpellsSigned tokens depth) extends_operand tokens (end + 1) next last →
      ChainGoes tokens depth from next new (count + 1)
  chain_goes_on end stop next last new count operator go near ahead below reach dyad longest =
      λ others agree m n to x first rest.
      step others end next count n to ahead (ap is_dyad (sym (agree end (omega arith))) ∙ ap is_some dyad)
      (λ x to h. longest others (shorter tokens others last new reach agree) x to h)
      (go others (shorter tokens others stop new below agree) m n to x first rest)

  stops : (others : List Token) (end count n to : ℕ) →
      ((j : ℕ) → count + suc j ≡ n → Rest others depth (suc j) end to → ⊥) →
      EndsEarly extends_expression others end to ⊎ ((j : ℕ) × (count + j ≡ n) × Rest others depth j end to) →
      (to ≡ end) ⊎ EndsEarly extends_expression others end to
  stops others end count n to stuck (inl early) = inr early
  stops others end count n to stuck (inr (zero, size, h)) = inl h
  stops others end count n to stuck (inr (suc j, size, h)) = absurd (stuck j size h)

  -- no operator follows
  pub chain_ends : (end stop count : ℕ) → ChainGoes tokens depth from end stop count → end ≤ stop →
      option_and_then dyad_of (what_at tokens end) ≡ None →
      IsLongest (λ tokens. SpellsExpr tokens depth) extends_expression tokens from end stop
  chain_ends end stop count go near none = λ others agree x to h.
      let chain = flat others depth from x to h.0 in
      stops others end count (dyad_count x) to
      (λ j size rest. clash _ rest.1 (ap is_dyad (sym (agree end near)) ∙ ap is_some none))
      (go others agree chain.0 (dyad_count x) to chain.1.0 chain.1.1 chain.2)

  -- no operand follows the operator
  pub chain_is_stuck : (end stop last new count : ℕ) → ChainGoes tokens depth from end stop count →
      stop ≤ new → last ≤ new →
      Stuck (λ tokens. SpellsSigned tokens depth) tokens (end + 1) last →
      IsLongest (λ tokens. SpellsExpr tokens depth) extends_expression tokens from end new
  chain_is_stuck end stop last new count go below reach stuck = λ others agree x to h.
      let chain = flat others depth from x to h.0 in
      stops others end count (dyad_count x) to
      (λ j size rest. stuck others (shorter tokens others last new reach agree) rest.2.0 rest.0 rest.2.1)
      (go others (shorter tokens others stop new below agree) chain.0 (dyad_count x) to chain.1.0 chain.1.1 chain.2)

  -- no more operators are allowed
  pub chain_is_full : (end stop count : ℕ) → ChainGoes tokens depth from end stop count → 100 ≤ count →
      IsLongest (λ tokens. SpellsExpr tokens depth) extends_expression tokens from end stop
  chain_is_full end stop count go full = λ others agree x to h.
      let chain = flat others depth from x to h.0 in
      stops others end count (dyad_count x) to
      (λ j size rest. omega (arith, h.1))
      (go others agree chain.0 (dyad_count x) to chain.1.0 chain.1.1 chain.2)

  -- no operand begins it
  pub no_chain : (stop : ℕ) → Stuck (λ tokens. SpellsSigned tokens depth) tokens from stop →
      Stuck (λ tokens. SpellsExpr tokens depth) tokens from stop
  no_chain stop stuck = λ others agree x to h.
      let chain = flat others depth from x to h.0 in
      stuck others agree chain.1.0 chain.0 chain.1.1

-- why no expression is read, where no operand is
pub no_chain_halted : (tokens : List Token) (depth from : ℕ) (halt : Halt) →
    IsHalted (λ tokens. SpellsSigned tokens depth) tokens from halt →
    IsHalted (λ tokens. SpellsExpr tokens depth) tokens from halt
no_chain_halted tokens depth from NoMemory h = tt
no_chain_halted tokens depth from (Refused stop) h = (no_chain tokens depth from stop h.0, h.1, h.2)
