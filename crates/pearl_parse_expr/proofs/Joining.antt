-- Brackets, references and operands with operators that go on as far as a stop: made of what was read and of a part
-- that goes on so far.
use Rattle.std.proofs.Common.{◌≡◌, ℕ, zero, suc, ◌+◌, ◌-◌, ◌<◌, ◌≤◌, ◌^◌, List, [], ◌∷◌, length, Option, Some}
use Rattle.std.proofs.Common.{None, Ok, Vec, refl, sym, ap, subst, ◌∙◌, arith, inl, inr, ◌⊎◌, true, true≢false, Bool}
use Rattle.std.specs.Option.{option_map}
use Rattle.pearl_tree.specs.declared.name.Name.{Name}
use Rattle.pearl_tree.specs.declared.name.Number.{Number}
use Rattle.pearl_tree.specs.declared.expression.Dyadic.{Dyadic}
use Rattle.pearl_tree.specs.declared.expression.Monadic.{Monadic}
use Rattle.pearl_tree.specs.declared.expression.Side.{Side}
use Rattle.pearl_tree.specs.declared.expression.Expr.{Expr}
use Rattle.pearl_tree.specs.declared.expression.Expr as tree
use Rattle.pearl_tree.specs.declared.expression.Operand.{Operand}
use Rattle.pearl_tree.specs.declared.expression.Primary.{Primary}
use Rattle.pearl_tree.specs.declared.expression.Primary as primary
use Rattle.pearl_tree.specs.declared.expression.Ref.{Ref}
use Rattle.pearl_tree.specs.declared.expression.Selector.{Selector}
use Rattle.pearl_tree.specs.declared.expression.Selector as selector
use Rattle.pearl_tree.specs.declared.token.What.{What}
use Rattle.pearl_tree.specs.declared.token.What.TheVariants as what
use Rattle.pearl_tree.specs.declared.token.Token.{Token}
use Rattle.pearl_tree.specs.Standing.{Spelling, what_at, IsAt, IsName, HasWord, HasSymbol, SpellsEach}
use Rattle.pearl_tree.specs.Standing.{SpellsMaybe, SpellsNumber}
use Rattle.pearl_tree.specs.Expressions.{SpellsMonadic, SpellsTerms, SpellsExpr, SpellsPrimary, SpellsSelector}
use Rattle.pearl_tree.specs.Expressions.{SpellsRef, HasDyad, dyad_count, side_word}
use Rattle.pearl_tree.specs.declared.symbol.TheConstants as s
use Rattle.pearl_tree.specs.declared.word_code.TheConstants as w
use Rattle.pearl_tree.proofs.Offered.{spells_ref, spells_limit, spells_subscripts, terms_after, selector_after}
use Rattle.pearl_tree.proofs.Offered.{primary_after, monadics_after}
use Rattle.pearl_parse_expr.specs.Stops.{EndsEarly, IsAhead, SpellsSigned, SpellsOperand, SpellsNamed}
use Rattle.pearl_parse_expr.specs.Stops.{SpellsSelectorsList, SpellsSubscriptsList, SomeGoesOn, extends_operand}
use Rattle.pearl_parse_expr.specs.Stops.{extends_expression, extends_list, is_name}
use Rattle.pearl_parse_expr.specs.declared.reading.Reading.{Reading}
use Rattle.pearl_parse_expr.specs.Least.{AlikeBefore, Reaches, GoesTo}
use Rattle.pearl_parse_expr.specs.Reads.{Reads, ReadsAs, ReadsList, ReadsOnly}
use Rattle.pearl_parse_expr.proofs.Local as local
use Rattle.pearl_parse_expr.proofs.LocalLists.{Kept, local_of, after_of, each_keeps, list_keeps, each_long, list_long}
use Rattle.pearl_parse_expr.proofs.Reaching.{IsLocal, placed, placed_within, token_of, reached, reaches_as}
use Rattle.pearl_parse_expr.proofs.Reaching.{reaches_closed, reach_of}
use Rattle.pearl_parse_expr.proofs.Trees.{boxed, parts_of, joins}
use Rattle.pearl_parse_expr.proofs.PrimariesBegin.{primary_begins}

-- ---- which parts are local

pub selector_keeps : (depth : ℕ) → Kept 1 (λ tokens. SpellsSelector tokens depth)
selector_keeps depth tokens others k alike from x to h near = (
  omega (arith, selector_after tokens depth from x to h),
  local.selector_local tokens others k alike depth from x to h near,
)

pub expr_keeps : (depth : ℕ) → Kept 1 (λ tokens. SpellsExpr tokens depth)
expr_keeps depth tokens others k alike from x to h near = (
  omega (arith, terms_after tokens depth from x to h.0),
  (local.terms_local tokens others k alike depth from x to h.0 near, h.1),
)

pub selector_is_local : (depth : ℕ) → IsLocal (λ tokens. SpellsSelector tokens depth)
selector_is_local depth = local_of 1 (λ tokens. SpellsSelector tokens depth) (selector_keeps depth)

pub expr_is_local : (depth : ℕ) → IsLocal (λ tokens. SpellsExpr tokens depth)
expr_is_local depth = local_of 1 (λ tokens. SpellsExpr tokens depth) (expr_keeps depth)

pub selectors_are_local : (depth : ℕ) → IsLocal (λ tokens. SpellsSelectorsList tokens depth)
selectors_are_local depth tokens others k alike from xs to h near =
    (each_keeps tokens others k alike 1 (λ tokens. SpellsSelector tokens depth)
    (selector_keeps depth tokens others k alike) from xs to h near).1

pub subscripts_are_local : (depth : ℕ) → IsLocal (λ tokens. SpellsSubscriptsList tokens depth)
subscripts_are_local depth tokens others k alike from xs to h near =
    (list_keeps tokens others k alike 1 (λ tokens. SpellsExpr tokens depth) (expr_keeps depth tokens others k alike)
    from xs to h near).1

subscripts_after : (tokens : List Token) (depth from : ℕ) (xs : List Expr) (to : ℕ) →
    SpellsSubscriptsList tokens depth from xs to → from + length xs ≤ to
subscripts_after tokens depth = list_long tokens (SpellsExpr tokens depth)
    (after_of 1 (λ tokens. SpellsExpr tokens depth) (expr_keeps depth) tokens)

pub selectors_after : (tokens : List Token) (depth from : ℕ) (xs : List Selector) (to : ℕ) →
    SpellsSelectorsList tokens depth from xs to → from + length xs ≤ to
selectors_after tokens depth = each_long tokens (SpellsSelector tokens depth)
    (after_of 1 (λ tokens. SpellsSelector tokens depth) (selector_keeps depth) tokens)

-- ---- brackets

module _ (tokens : List Token) (depth from stop : ℕ) (few : length tokens < 2 ^ 55) (deep : 0 < depth)
    (bracket : HasSymbol tokens from s.LEFT_ROUND)
    (near : from < stop) (within : stop ≤ length tokens) where
  opens : (others : List Token) → AlikeBefore tokens others stop →
      (place : ℕ) × IsAt others from place × HasSymbol others from s.LEFT_ROUND
  opens others alike =
      let stands = local.what tokens others stop alike from near ∙ bracket in
      let at = placed others from (what.Symbol s.LEFT_ROUND) stands in
      (at.0, at.1, stands)

  pub group_reaches : Reaches (λ tokens. SpellsExpr tokens (depth - 1)) tokens (from + 1) stop →
      Reaches (λ tokens. SpellsPrimary tokens depth) tokens from stop
  group_reaches r =
      reaches_closed (λ tokens. SpellsExpr tokens (depth - 1)) (λ tokens. SpellsPrimary tokens depth) tokens from
      (from + 1) stop (token_of (what.Symbol s.RIGHT_ROUND)) (omega arith) (omega arith)
      (λ others alike short m size end x h.
      let open_ = opens others alike in (
        primary.Group (boxed x) open_.0,
        (m, open_.1, open_.2, deep, h, ap (option_map (λ token. token.what)) end, refl),
      )) (expr_is_local (depth - 1)) r

  pub bracketed_reaches : Reaches (λ tokens. SpellsSubscriptsList tokens (depth - 1)) tokens (from + 1) stop →
      Reaches (λ tokens. SpellsSelector tokens depth) tokens from stop
  bracketed_reaches r =
      reaches_closed (λ tokens. SpellsSubscriptsList tokens (depth - 1)) (λ tokens. SpellsSelector tokens depth) tokens
      from (from + 1) stop (token_of (what.Symbol s.RIGHT_ROUND)) (omega arith) (omega arith)
      (λ others alike short m size end xs h.
      let open_ = opens others alike in
      let short : length xs < 2 ^ 63 = omega (arith, subscripts_after others (depth - 1) (from + 1) xs m h) in (
        selector.Subscripts (parts_of xs short) open_.0,
        subst (λ X. X) (sym (spells_subscripts others depth from (parts_of xs short) open_.0 (m + 1)))
            (m, open_.1, open_.2, deep, h, ap (option_map (λ token. token.what)) end, refl),
      )) (subscripts_are_local (depth - 1)) r

-- ---- references

name_text : (o : Option What) → is_name o ≡ true → (n : Name) × (o ≡ Some (what.Id n.text))
name_text None h = absurd (true≢false (sym h))
name_text (Some (what.Id text)) h = (record { text = text; place = 0 }, refl)
name_text (Some (what.Word code)) h = absurd (true≢false (sym h))
name_text (Some (what.Number value)) h = absurd (true≢false (sym h))
name_text (Some (what.Decimal whole thousandths)) h = absurd (true≢false (sym h))
name_text (Some (what.Clock milliseconds)) h = absurd (true≢false (sym h))
name_text (Some (what.Bits len value)) h = absurd (true≢false (sym h))
name_text (Some (what.Text text)) h = absurd (true≢false (sym h))
name_text (Some (what.Symbol symbol)) h = absurd (true≢false (sym h))

name_of : (tokens : List Token) (k : ℕ) → is_name (what_at tokens k) ≡ true → (name : Name) × IsName tokens k name
name_of tokens k h =
    let n = name_text (what_at tokens k) h in
    let at = placed tokens k (what.Id n.0.text) n.1 in
    (record { text = n.0.text; place = at.0 }, (n.1, at.1))

-- the reference that a name and selectors make
pub named : (tokens : List Token) (depth from : ℕ) (xs : List Selector) (to : ℕ) → SpellsNamed tokens depth from xs to →
    length xs < 2 ^ 63 →
    (r : Ref) × SpellsRef tokens depth from r to
named tokens depth from xs to h few =
    let n = name_of tokens from h.0 in
    (record { name = n.0; selectors = parts_of xs few; place = n.0.place }, (n.1.1, n.1, h.1))

module _ (tokens : List Token) (depth : ℕ) where
  pub named_reaches : (from stop : ℕ) → is_name (what_at tokens from) ≡ true → from < stop →
      Reaches (λ tokens. SpellsSelectorsList tokens depth) tokens (from + 1) stop →
      Reaches (λ tokens. SpellsNamed tokens depth) tokens from stop
  named_reaches from stop name near r =
      reaches_as (λ tokens. SpellsSelectorsList tokens depth) (λ tokens. SpellsNamed tokens depth) tokens from
      (from + 1) stop (omega arith)
      (λ others alike long short xs h. (xs, (ap is_name (local.what tokens others stop alike from near) ∙ name, h))) r

  pub ref_reaches : (from stop : ℕ) → length tokens < 2 ^ 55 → stop ≤ length tokens →
      Reaches (λ tokens. SpellsNamed tokens depth) tokens from stop →
      Reaches (λ tokens. SpellsPrimary tokens depth) tokens from stop
  ref_reaches from stop few within r =
      reaches_as (λ tokens. SpellsNamed tokens depth) (λ tokens. SpellsPrimary tokens depth) tokens
      from from stop (omega arith)
      (λ others alike long short xs h.
      let small : length xs < 2 ^ 63 = omega (arith, selectors_after others depth (from + 1) xs (length others) h.1) in
      let ref = named others depth from xs (length others) h small in
      (primary.Ref ref.0, subst (λ X. X) (sym (spells_ref others depth from ref.0 (length others))) ref.1)) r

  dimension_within : (others : List Token) (from word : ℕ) (dimension : Option Number) →
      SpellsMaybe (SpellsNumber others) from dimension word → from ≤ word
  dimension_within others from word None h = omega (arith, h)
  dimension_within others from word (Some x) h = omega (arith, h.1)

  pub limit_reaches : (from word stop : ℕ) (dimension : Option Number) (side : Side) →
      SpellsMaybe (SpellsNumber tokens) from dimension word →
      HasWord tokens word (side_word side) → word < stop → length tokens < 2 ^ 55 → stop ≤ length tokens →
      Reaches (λ tokens. SpellsNamed tokens depth) tokens (word + 1) stop →
      Reaches (λ tokens. SpellsPrimary tokens depth) tokens from stop
  limit_reaches from word stop dimension side number stands near few within r =
      let before = dimension_within tokens from word dimension number in
      reaches_as (λ tokens. SpellsNamed tokens depth) (λ tokens. SpellsPrimary tokens depth) tokens from
      (word + 1) stop (omega arith)
      (λ others alike long short xs h.
      let small : length xs < 2 ^ 63 = omega (arith, selectors_after others depth (word + 1 + 1) xs (length others) h.1)
      in
      let ref = named others depth (word + 1) xs (length others) h small in
      let at = placed_within others from (omega arith) in (
        primary.Limit dimension side (boxed ref.0) at.0,
        subst (λ X. X) (sym (spells_limit others depth from dimension side (boxed ref.0) at.0 (length others))) (
          word,
          at.1,
          local.dimension_local tokens others stop alike from dimension word number (omega arith),
          local.what tokens others stop alike word near ∙ stands,
          ref.1,
        ),
      )) r

  -- ---- operands and chains

  pub operand_reaches : (from at stop : ℕ) (list : List Monadic) → SpellsEach (SpellsMonadic tokens) from list at →
      length list ≤ 8 → from ≤ at → at ≤ stop →
      Reaches (λ tokens. SpellsPrimary tokens depth) tokens at stop →
      Reaches (λ tokens. SpellsSigned tokens depth) tokens from stop
  operand_reaches from at stop list each few before near r =
      reaches_as (λ tokens. SpellsPrimary tokens depth) (λ tokens. SpellsSigned tokens depth) tokens from at stop before
      (λ others alike long short x h. (
        x,
        (at, list, (few, local.monadics_local tokens others stop alike from list at each near), h),
      )) r

  as_operand : (others : List Token) (from : ℕ) (x : Primary) → SpellsSigned others depth from x (length others) →
      (operand : Operand) × SpellsTerms others depth from (tree.Operand operand) (length others)
  as_operand others from x h =
      let first = monadics_after others from h.1 h.0 h.2.1 in
      let second = primary_after others depth h.0 x (length others) h.3 in
      let at = placed_within others from (omega arith) in
      let few : length h.1 < 2 ^ 63 = omega (arith, h.2.0) in
      (record { monadics = parts_of h.1 few; primary = x; place = at.0 }, (h.0, at.1, h.2.0, h.2.1, h.3))

  pub chain_reaches : (from stop : ℕ) → Reaches (λ tokens. SpellsSigned tokens depth) tokens from stop →
      Reaches (λ tokens. SpellsExpr tokens depth) tokens from stop
  chain_reaches from stop r =
      reaches_as (λ tokens. SpellsSigned tokens depth) (λ tokens. SpellsExpr tokens depth) tokens
      from from stop (omega arith)
      (λ others alike long short x h. let operand = as_operand others from x h in (
        tree.Operand operand.0,
        (operand.1, omega arith),
      )) r

  pub chain_goes_further : (from end stop : ℕ) (expr : Expr) (dyadic : Dyadic) →
      SpellsTerms tokens depth from expr end → dyad_count expr < 100 →
      HasDyad tokens end dyadic.operator → IsAt tokens end dyadic.place → from ≤ end → end < stop →
      Reaches (λ tokens. SpellsSigned tokens depth) tokens (end + 1) stop →
      Reaches (λ tokens. SpellsExpr tokens depth) tokens from stop
  chain_goes_further from end stop expr dyadic h few has at before near r =
      reaches_as (λ tokens. SpellsSigned tokens depth) (λ tokens. SpellsExpr tokens depth) tokens from
      (end + 1) stop (omega arith)
      (λ others alike long short x g.
      let operand = as_operand others (end + 1) x g in
      let joined = joins others depth from end (length others) expr dyadic operand.0
      (local.terms_local tokens others stop alike depth from expr end h (omega arith))
      (local.dyad tokens others stop alike end dyadic.operator near has)
      (local.place tokens others stop alike end near ∙ at) operand.1 in
      (joined.expr, (joined.spelled, omega (arith, joined.counted)))) r

-- ---- what was read, as far as the stop

signed_is_local : (depth : ℕ) → IsLocal (λ tokens. SpellsSigned tokens depth)
signed_is_local depth tokens others k alike from x to h near =
    let behind = primary_after tokens depth h.0 x to h.3 in (
      h.0,
      h.1,
      (h.2.0, local.monadics_local tokens others k alike from h.1 h.0 h.2.1 (omega arith)),
      local.primary_local tokens others k alike depth h.0 x to h.3 near,
    )

-- a part that was read to `end` goes on as far as it was stopped
read_reaches : {X : Type 0} (spells : List Token → Spelling X) → IsLocal spells →
    (tokens : List Token) (from end stop : ℕ) (x : X) →
    spells tokens from x end → IsAhead tokens from end stop → GoesTo spells tokens from end stop →
    Reaches spells tokens from stop
read_reaches spells local tokens from end stop x h ahead least =
    reach_of spells tokens local from x end stop h (omega (arith, ahead)) (omega (arith, ahead)) least

module _ (tokens : List Token) (depth from : ℕ) where
  pub expr_reach : (reading : Reading Expr) →
      Reads 16 (λ tokens. SpellsExpr tokens depth) extends_expression tokens from (Ok reading) →
      Reaches (λ tokens. SpellsExpr tokens depth) tokens from reading.stop
  expr_reach reading read =
      read_reaches (λ tokens. SpellsExpr tokens depth) (expr_is_local depth) tokens from reading.end
      reading.stop reading.part
      read.spells read.ahead read.least

  pub selector_reach : (reading : Reading Selector) →
      ReadsOnly 16 (λ tokens. SpellsSelector tokens depth) tokens from (Ok reading) →
      Reaches (λ tokens. SpellsSelector tokens depth) tokens from reading.stop
  selector_reach reading read =
      read_reaches (λ tokens. SpellsSelector tokens depth) (selector_is_local depth) tokens from reading.end
      reading.stop reading.part
      read.spells read.ahead read.least

  pub subscripts_reach : {A : Type 0} (reading : Reading (Vec Expr A)) →
      ReadsList 16 (λ tokens. SpellsSubscriptsList tokens depth) extends_list tokens from (Ok reading) →
      Reaches (λ tokens. SpellsSubscriptsList tokens depth) tokens from reading.stop
  subscripts_reach reading read =
      read_reaches (λ tokens. SpellsSubscriptsList tokens depth) (subscripts_are_local depth) tokens from
      reading.end reading.stop
      reading.part.items read.spells read.ahead read.least

  -- an operand, as it was read
  pub signed_reach : (reading : Reading Operand) →
      ReadsAs 16 (λ tokens. SpellsOperand tokens depth) (λ tokens. SpellsSigned tokens depth) extends_operand
      tokens from (Ok reading) →
      Reaches (λ tokens. SpellsSigned tokens depth) tokens from reading.stop
  signed_reach reading read =
      let h = read.spells in
      read_reaches (λ tokens. SpellsSigned tokens depth) (signed_is_local depth) tokens from reading.end reading.stop
      reading.part.primary (h.0, reading.part.monadics.items.items, (h.2, h.3), h.4) read.ahead read.least

pub selectors_begin : (tokens : List Token) (depth from : ℕ) → from ≤ length tokens →
    Reaches (λ tokens. SpellsSelectorsList tokens depth) tokens from from
selectors_begin tokens depth from within =
    reached (λ tokens. SpellsSelectorsList tokens depth) tokens (selectors_are_local depth) from [] from
    refl (omega arith) within

-- ---- an expression for a stop past the tokens

abbrev pad : ℕ → List Token
pad zero = []
pad (suc n) = token_of (what.Word w.NOW) ∷ pad n

pad_length : (n : ℕ) → length (pad n) ≡ n
pad_length zero = refl
pad_length (suc n) = ap suc (pad_length n)

pub goes_on : (tokens : List Token) (from stop : ℕ) → Reaches (λ tokens. SpellsExpr tokens 32) tokens from stop →
    SomeGoesOn tokens from stop
goes_on tokens from stop r = (
  r.part,
  length r.others,
  r.others,
  (λ j above below. r.alike j below),
  r.spelled,
  r.long,
  r.lawful,
)

pub goes_on_past : (tokens : List Token) (from : ℕ) → SomeGoesOn tokens from from
goes_on_past tokens from =
    let within : from ≤ length (pad from) = omega (arith, pad_length from) in
    let r = chain_reaches (pad from) 32 from from (operand_reaches (pad from) 32 from from from [] refl (omega arith)
    (omega arith) (omega arith) (primary_begins (pad from) 32 from within)) in
    (r.part, length r.others, r.others, (λ j above below. absurd (omega arith)), r.spelled, r.long, r.lawful)

pub ends_within : (extends : Option What → Bool) (others : List Token) (end stop to : ℕ) → end ≤ stop →
    (to ≡ end) ⊎ EndsEarly extends others end to → to ≤ stop
ends_within extends others end stop to near (inl e) = omega (arith, e)
ends_within extends others end stop to near (inr e) = omega (arith, e.0)
