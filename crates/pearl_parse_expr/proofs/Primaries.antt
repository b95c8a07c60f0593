-- What other tokens can spell at a primary or a selector, by the first token.
use Rattle.std.proofs.Common.{◌≡◌, ◌≢◌, ℕ, zero, suc, ◌+◌, ◌-◌, ◌<◌, ◌≤◌, Bool, true, false, ◌||◌, ◌&&◌, List, [], ◌∷◌}
use Rattle.std.proofs.Common.{length, Option, Some, None, ◌⊎◌, inl, inr, refl, sym, ap, subst, ◌∙◌, arith, true≢false}
use mathlib.Core.Former.{Count}
use Rattle.pearl_tree.specs.declared.literal.Duration.{Duration}
use Rattle.pearl_tree.specs.declared.literal.Duration.TheVariants.{Hours, Minutes, Seconds}
use Rattle.pearl_tree.specs.declared.literal.Literal.{Literal}
use Rattle.pearl_tree.specs.declared.literal.Literal.TheVariants as literal
use Rattle.pearl_tree.specs.declared.literal.Secs.{Secs}
use Rattle.pearl_tree.specs.declared.literal.Secs.TheVariants as secs
use Rattle.pearl_tree.specs.declared.expression.Side.{Side}
use Rattle.pearl_tree.specs.declared.expression.Side.TheVariants.{Lower, Upper}
use Rattle.pearl_tree.specs.declared.expression.Expr.{Expr}
use Rattle.pearl_tree.specs.declared.expression.Primary.{Primary}
use Rattle.pearl_tree.specs.declared.expression.Primary as primary
use Rattle.pearl_tree.specs.declared.expression.Selector.{Selector, Subscripts', Component, Row_of-Expr, end_of-Expr}
use Rattle.pearl_tree.specs.declared.expression.Selector.{items-the_row-Expr}
use Rattle.pearl_tree.specs.declared.expression.Ref.{Row_of-Selector, end_of-Selector, items-the_row-Selector}
use Rattle.pearl_tree.specs.declared.token.What.{What}
use Rattle.pearl_tree.specs.declared.token.What.TheVariants as what
use Rattle.pearl_tree.specs.declared.token.Token.{Token}
use Rattle.pearl_tree.specs.Standing.{what_at, HasWord, HasSymbol}
use Rattle.pearl_tree.specs.Expressions.{SpellsSecs, SpellsDuration, SpellsLiteral, SpellsPrimary, SpellsSelector}
use Rattle.pearl_tree.specs.Expressions.{SpellsExpr, side_word}
use Rattle.pearl_tree.specs.declared.word_code.TheConstants as w
use Rattle.pearl_tree.specs.declared.symbol.TheConstants as s
use Rattle.pearl_tree.specs.Stops.{BeginAlike}
use Rattle.pearl_tree.proofs.Offered.{selectors, subscripts}
use Rattle.pearl_parse_expr.specs.declared.reading.Halt.{Halt}
use Rattle.pearl_parse_expr.specs.declared.reading.Halt.TheVariants.{Refused, NoMemory}
use Rattle.pearl_parse_expr.specs.Stops.{IsHalted, is_literal, is_name, is_number, is_secs, is_plain, is_side}
use Rattle.pearl_parse_expr.specs.Stops.{is_symbol, is_word, begins_limit, extends_operand, SpellsNamed}
use Rattle.pearl_parse_expr.specs.Stops.{SpellsSubscriptsList}
use Rattle.pearl_parse_expr.proofs.Literals.{secs_end}

pub clash : (b : Bool) → b ≡ true → b ≡ false → ⊥
clash b holds fails = true≢false (sym holds ∙ fails)

pub or_absurd : (a b : Bool) → (a ≡ true → ⊥) → (b ≡ true → ⊥) → (a || b) ≡ true → ⊥
or_absurd true b first second h = first refl
or_absurd false b first second h = second h

secs_head : (tokens : List Token) (from : ℕ) (part : Secs) (to : ℕ) → SpellsSecs tokens from part to →
    is_secs (what_at tokens from) ≡ true
secs_head tokens from (secs.Number number) to h = ap is_secs h.0.0
secs_head tokens from (secs.Decimal whole thousandths place) to h = ap is_secs h.0

duration_head : (tokens : List Token) (from : ℕ) (part : Duration) (to : ℕ) → SpellsDuration tokens from part to →
    is_literal (what_at tokens from) ≡ true
duration_head tokens from (Hours hours minutes seconds place) to h = ap is_literal h.2.0
duration_head tokens from (Minutes minutes seconds place) to h = ap is_literal h.1.0
duration_head tokens from (Seconds (secs.Number number) place) to h = ap is_literal h.1.1.0.0
duration_head tokens from (Seconds (secs.Decimal whole thousandths place) _) to h = ap is_literal h.1.1.0

pub literal_head : (tokens : List Token) (from : ℕ) (part : Literal) (to : ℕ) → SpellsLiteral tokens from part to →
    is_literal (what_at tokens from) ≡ true
literal_head tokens from (literal.Number number) to h = ap is_literal h.0.0
literal_head tokens from (literal.Bits len value place) to h = ap is_literal h.0
literal_head tokens from (literal.Text text place) to h = ap is_literal h.0
literal_head tokens from (literal.Clock milliseconds place) to h = ap is_literal h.0
literal_head tokens from (literal.Duration duration) to h = duration_head tokens from duration.value to h

-- what the first token of each primary is
abbrev pub Head : Primary → Option What → Type 0
Head (primary.Literal part) token = is_literal token ≡ true
Head (primary.Ref' name _ list place) token = is_name token ≡ true
Head (primary.Group' _ inner place) token = is_symbol s.LEFT_ROUND token ≡ true
Head (primary.Now place) token = is_word w.NOW token ≡ true
Head (primary.Try name place) token = is_word w.TRY token ≡ true
Head (primary.Limit' None side _ name _ list ref_place place) token = is_side token ≡ true
Head (primary.Limit' (Some number) side _ name _ list ref_place place) token = is_number token ≡ true

pub side_head : (token : Option What) (side : Side) → token ≡ Some (what.Word (side_word side)) → is_side token ≡ true
side_head token Lower h = ap is_side h
side_head token Upper h = ap is_side h

name_is_no_literal : (token : Option What) → is_name token ≡ true → is_literal token ≡ true → ⊥
name_is_no_literal (Some (what.Word code)) holds and = true≢false (sym holds)
name_is_no_literal (Some (what.Id text)) holds and = true≢false (sym and)
name_is_no_literal (Some (what.Number value)) holds and = true≢false (sym holds)
name_is_no_literal (Some (what.Decimal whole thousandths)) holds and = true≢false (sym holds)
name_is_no_literal (Some (what.Clock milliseconds)) holds and = true≢false (sym holds)
name_is_no_literal (Some (what.Bits len value)) holds and = true≢false (sym holds)
name_is_no_literal (Some (what.Text text)) holds and = true≢false (sym holds)
name_is_no_literal (Some (what.Symbol symbol)) holds and = true≢false (sym holds)
name_is_no_literal None holds and = true≢false (sym holds)

side_is_no_number : (token : Option What) → is_side token ≡ true → is_number token ≡ true → ⊥
side_is_no_number (Some (what.Word code)) holds and = true≢false (sym and)
side_is_no_number (Some (what.Id text)) holds and = true≢false (sym holds)
side_is_no_number (Some (what.Number value)) holds and = true≢false (sym holds)
side_is_no_number (Some (what.Decimal whole thousandths)) holds and = true≢false (sym holds)
side_is_no_number (Some (what.Clock milliseconds)) holds and = true≢false (sym holds)
side_is_no_number (Some (what.Bits len value)) holds and = true≢false (sym holds)
side_is_no_number (Some (what.Text text)) holds and = true≢false (sym holds)
side_is_no_number (Some (what.Symbol symbol)) holds and = true≢false (sym holds)
side_is_no_number None holds and = true≢false (sym holds)

side_is_no_literal : (token : Option What) → is_side token ≡ true → is_literal token ≡ true → ⊥
side_is_no_literal (Some (what.Word code)) holds and = true≢false (sym and)
side_is_no_literal (Some (what.Id text)) holds and = true≢false (sym holds)
side_is_no_literal (Some (what.Number value)) holds and = true≢false (sym holds)
side_is_no_literal (Some (what.Decimal whole thousandths)) holds and = true≢false (sym holds)
side_is_no_literal (Some (what.Clock milliseconds)) holds and = true≢false (sym holds)
side_is_no_literal (Some (what.Bits len value)) holds and = true≢false (sym holds)
side_is_no_literal (Some (what.Text text)) holds and = true≢false (sym holds)
side_is_no_literal (Some (what.Symbol symbol)) holds and = true≢false (sym holds)
side_is_no_literal None holds and = true≢false (sym holds)

pub token_within : (tokens : List Token) (k : ℕ) (token : What) → what_at tokens k ≡ Some token → k < length tokens
token_within [] k token h = cc
token_within (x ∷ xs) zero token h = omega arith
token_within (x ∷ xs) (suc k) token h = omega (arith, token_within xs k token h)

pub symbol_within : (tokens : List Token) (k symbol : ℕ) → HasSymbol tokens k symbol → k < length tokens
symbol_within tokens k symbol h = token_within tokens k (what.Symbol symbol) h

pub word_within : (tokens : List Token) (k word : ℕ) → HasWord tokens k word → k < length tokens
word_within tokens k word h = token_within tokens k (what.Word word) h

abbrev selectors_of : Primary → (n : Count) × Row_of-Selector n
selectors_of (primary.Ref' _ _ row _) = (_, row)
selectors_of (primary.Limit' _ _ _ _ _ row _ _) = (_, row)
selectors_of _ = (_, end_of-Selector)

abbrev subscripts_of : Selector → (n : Count) × Row_of-Expr n
subscripts_of (Subscripts' _ row _) = (_, row)
subscripts_of _ = (_, end_of-Expr)

module _ (tokens : List Token) where
  pub first_token : (depth from : ℕ) (x : Primary) (to : ℕ) → SpellsPrimary tokens depth from x to →
      Head x (what_at tokens from)
  first_token depth from (primary.Literal part) to h = literal_head tokens from part to h
  first_token depth from (primary.Ref' name _ list place) to h = ap is_name h.1.0
  first_token depth from (primary.Group' _ inner place) to h = ap (is_symbol s.LEFT_ROUND) h.2
  first_token depth from (primary.Now place) to h = ap (is_word w.NOW) h.1
  first_token depth from (primary.Try name place) to h = ap (is_word w.TRY) h.1
  first_token depth from (primary.Limit' None side _ name _ list ref_place place) to h =
      side_head (what_at tokens from) side (subst (λ k. HasWord tokens k (side_word side)) h.2 h.3)
  first_token depth from (primary.Limit' (Some number) side _ name _ list ref_place place) to h = ap is_number h.2.0.0

  -- a group
  pub only_group : (depth from : ℕ) → HasSymbol tokens from s.LEFT_ROUND → (x : Primary) (to : ℕ) →
      SpellsPrimary tokens depth from x to →
      (0 < depth) × ((inner : Expr) × (m : ℕ) × SpellsExpr tokens (depth - 1) (from + 1) inner m × HasSymbol tokens m
      s.RIGHT_ROUND × (to ≡ m + 1))
  only_group depth from stands (primary.Group' _ inner place) to h = (h.3, (inner, h.0, h.4, h.5, h.6))
  only_group depth from stands (primary.Literal part) to h =
      absurd (clash _ (first_token depth from (primary.Literal part) to h) (ap is_literal stands))
  only_group depth from stands (primary.Ref' name _ list place) to h =
      absurd (clash _ (ap is_name h.1.0) (ap is_name stands))
  only_group depth from stands (primary.Now place) to h =
      absurd (clash _ (ap (is_word w.NOW) h.1) (ap (is_word w.NOW) stands))
  only_group depth from stands (primary.Try name place) to h =
      absurd (clash _ (ap (is_word w.TRY) h.1) (ap (is_word w.TRY) stands))
  only_group depth from stands (primary.Limit' None side _ name _ list ref_place place) to h =
      absurd (clash _ (side_head (what_at tokens from) side (subst (λ k. HasWord tokens k (side_word side)) h.2 h.3))
      (ap is_side stands))
  only_group depth from stands (primary.Limit' (Some number) side _ name _ list ref_place place) to h =
      absurd (clash _ (ap is_number h.2.0.0) (ap is_number stands))

  -- a reference
  pub only_named : (depth from : ℕ) → is_name (what_at tokens from) ≡ true → (x : Primary) (to : ℕ) →
      SpellsPrimary tokens depth from x to → (list : List Selector) × SpellsNamed tokens depth from list to
  only_named depth from stands (primary.Ref' name n list place) to h =
      let row = selectors_of (primary.Ref' name n list place) in (
        items-the_row-Selector row.0 row.1,
        (stands, subst (λ X. X) (selectors tokens depth (from + 1) row.0 row.1 to) h.2),
      )
  only_named depth from stands (primary.Literal part) to h =
      absurd (name_is_no_literal (what_at tokens from) stands (first_token depth from (primary.Literal part) to h))
  only_named depth from stands (primary.Group' _ inner place) to h = absurd (clash _ stands (ap is_name h.2))
  only_named depth from stands (primary.Now place) to h = absurd (clash _ stands (ap is_name h.1))
  only_named depth from stands (primary.Try name place) to h = absurd (clash _ stands (ap is_name h.1))
  only_named depth from stands (primary.Limit' None side _ name _ list ref_place place) to h =
      absurd (clash _ stands (ap is_name (subst (λ k. HasWord tokens k (side_word side)) h.2 h.3)))
  only_named depth from stands (primary.Limit' (Some number) side _ name _ list ref_place place) to h =
      absurd (clash _ stands (ap is_name h.2.0.0))

  -- NOW
  pub only_now : (depth from : ℕ) → HasWord tokens from w.NOW → (x : Primary) (to : ℕ) →
      SpellsPrimary tokens depth from x to → to ≡ from + 1
  only_now depth from stands (primary.Now place) to h = h.2
  only_now depth from stands (primary.Literal part) to h =
      absurd (clash _ (first_token depth from (primary.Literal part) to h) (ap is_literal stands))
  only_now depth from stands (primary.Ref' name _ list place) to h =
      absurd (clash _ (ap is_name h.1.0) (ap is_name stands))
  only_now depth from stands (primary.Group' _ inner place) to h =
      absurd (clash _ (ap (is_symbol s.LEFT_ROUND) h.2) (ap (is_symbol s.LEFT_ROUND) stands))
  only_now depth from stands (primary.Try name place) to h =
      absurd (clash _ (ap (is_word w.TRY) h.1) (ap (is_word w.TRY) stands))
  only_now depth from stands (primary.Limit' None side _ name _ list ref_place place) to h =
      absurd (clash _ (side_head (what_at tokens from) side (subst (λ k. HasWord tokens k (side_word side)) h.2 h.3))
      (ap is_side stands))
  only_now depth from stands (primary.Limit' (Some number) side _ name _ list ref_place place) to h =
      absurd (clash _ (ap is_number h.2.0.0) (ap is_number stands))

  -- TRY id
  pub only_try : (depth from : ℕ) → HasWord tokens from w.TRY → (x : Primary) (to : ℕ) →
      SpellsPrimary tokens depth from x to → (is_name (what_at tokens (from + 1)) ≡ true) × (to ≡ from + 2)
  only_try depth from stands (primary.Try name place) to h = (ap is_name h.2.0, h.3)
  only_try depth from stands (primary.Literal part) to h =
      absurd (clash _ (first_token depth from (primary.Literal part) to h) (ap is_literal stands))
  only_try depth from stands (primary.Ref' name _ list place) to h =
      absurd (clash _ (ap is_name h.1.0) (ap is_name stands))
  only_try depth from stands (primary.Group' _ inner place) to h =
      absurd (clash _ (ap (is_symbol s.LEFT_ROUND) h.2) (ap (is_symbol s.LEFT_ROUND) stands))
  only_try depth from stands (primary.Now place) to h =
      absurd (clash _ (ap (is_word w.NOW) h.1) (ap (is_word w.NOW) stands))
  only_try depth from stands (primary.Limit' None side _ name _ list ref_place place) to h =
      absurd (clash _ (side_head (what_at tokens from) side (subst (λ k. HasWord tokens k (side_word side)) h.2 h.3))
      (ap is_side stands))
  only_try depth from stands (primary.Limit' (Some number) side _ name _ list ref_place place) to h =
      absurd (clash _ (ap is_number h.2.0.0) (ap is_number stands))

  -- a literal
  pub only_literal : (depth from : ℕ) → is_symbol s.LEFT_ROUND (what_at tokens from) ≡ false →
      is_name (what_at tokens from) ≡ false →
      is_word w.NOW (what_at tokens from) ≡ false → is_word w.TRY (what_at tokens from) ≡ false →
      is_side (what_at tokens from) ≡ false →
      (is_number (what_at tokens from) ≡ true → is_side (what_at tokens (from + 1)) ≡ false) →
      (x : Primary) (to : ℕ) → SpellsPrimary tokens depth from x to →
      (part : Literal) × SpellsLiteral tokens from part to
  only_literal depth from group name now_word try_word side behind (primary.Literal part) to h = (part, h)
  only_literal depth from group name now_word try_word side behind (primary.Ref' _ _ list place) to h =
      absurd (clash _ (ap is_name h.1.0) name)
  only_literal depth from group name now_word try_word side behind (primary.Group' _ inner place) to h =
      absurd (clash _ (ap (is_symbol s.LEFT_ROUND) h.2) group)
  only_literal depth from group name now_word try_word side behind (primary.Now place) to h =
      absurd (clash _ (ap (is_word w.NOW) h.1) now_word)
  only_literal depth from group name now_word try_word side behind (primary.Try _ place) to h =
      absurd (clash _ (ap (is_word w.TRY) h.1) try_word)
  only_literal depth from group name now_word try_word side behind (primary.Limit' None which _ _ _
      list ref_place place) to h =
      absurd (clash _ (side_head (what_at tokens from) which (subst (λ k. HasWord tokens k (side_word which)) h.2 h.3))
      side)
  only_literal depth from group name now_word try_word side behind (primary.Limit' (Some number) which _ _ _
      list ref_place place) to h =
      absurd (clash _ (side_head (what_at tokens (from + 1)) which (subst (λ k. HasWord tokens k (side_word which))
      h.2.1 h.3)) (behind (ap is_number h.2.0.0)))

  -- LWB or UPB
  pub only_limit : (depth from : ℕ) → is_side (what_at tokens from) ≡ true → (x : Primary) (to : ℕ) →
      SpellsPrimary tokens depth from x to → (list : List Selector) × SpellsNamed tokens depth (from + 1) list to
  only_limit depth from stands (primary.Limit' None side box name n list ref_place place) to h =
      let row = selectors_of (primary.Limit' None side box name n list ref_place place) in
      let items = items-the_row-Selector row.0 row.1 in (
        items,
        subst (λ m. SpellsNamed tokens depth (m + 1) items to) h.2
            (ap is_name h.4.1.0, subst (λ X. X) (selectors tokens depth (h.0 + 1 + 1) row.0 row.1 to) h.4.2),
      )
  only_limit depth from stands (primary.Limit' (Some number) side _ name _ list ref_place place) to h =
      absurd (side_is_no_number (what_at tokens from) stands (ap is_number h.2.0.0))
  only_limit depth from stands (primary.Literal part) to h =
      absurd (side_is_no_literal (what_at tokens from) stands (first_token depth from (primary.Literal part) to h))
  only_limit depth from stands (primary.Ref' name _ list place) to h = absurd (clash _ stands (ap is_side h.1.0))
  only_limit depth from stands (primary.Group' _ inner place) to h = absurd (clash _ stands (ap is_side h.2))
  only_limit depth from stands (primary.Now place) to h = absurd (clash _ stands (ap is_side h.1))
  only_limit depth from stands (primary.Try name place) to h = absurd (clash _ stands (ap is_side h.1))

  no_duration_before_side : (from : ℕ) → is_side (what_at tokens (from + 1)) ≡ true → (part : Duration) (to : ℕ) →
      SpellsDuration tokens from part to → ⊥
  no_duration_before_side from behind (Hours hours minutes seconds place) to h = clash _ behind (ap is_side h.3)
  no_duration_before_side from behind (Minutes minutes seconds place) to h = clash _ behind (ap is_side h.2)
  no_duration_before_side from behind (Seconds seconds place) to h =
      clash _ behind (ap is_side (subst (λ k. HasWord tokens k w.SEC) (secs_end tokens from seconds h.1.0 h.1.1) h.1.2))

  literal_before_side : (from : ℕ) → is_side (what_at tokens (from + 1)) ≡ true → (part : Literal) (to : ℕ) →
      SpellsLiteral tokens from part to → to ≡ from + 1
  literal_before_side from behind (literal.Number number) to h = h.1
  literal_before_side from behind (literal.Bits len value place) to h = h.2
  literal_before_side from behind (literal.Text text place) to h = h.2
  literal_before_side from behind (literal.Clock milliseconds place) to h = h.2
  literal_before_side from behind (literal.Duration duration) to h =
      absurd (no_duration_before_side from behind duration.value to h)

  -- a number, then LWB or UPB
  pub only_counted_limit : (depth from : ℕ) → is_number (what_at tokens from) ≡ true →
      is_side (what_at tokens (from + 1)) ≡ true →
      (x : Primary) (to : ℕ) → SpellsPrimary tokens depth from x to →
      (to ≡ from + 1) ⊎ ((list : List Selector) × SpellsNamed tokens depth (from + 1 + 1) list to)
  only_counted_limit depth from stands behind (primary.Limit' None side _ name n row ref_place place) to h =
      absurd (side_is_no_number (what_at tokens from) (side_head (what_at tokens from) side
      (subst (λ k. HasWord tokens k (side_word side)) h.2 h.3)) stands)
  only_counted_limit depth from stands behind (primary.Limit' (Some number) side box name n list ref_place place) to h =
      let row = selectors_of (primary.Limit' (Some number) side box name n list ref_place place) in
      let items = items-the_row-Selector row.0 row.1 in
      inr (
        items,
        subst (λ m. SpellsNamed tokens depth (m + 1) items to) h.2.1
            (ap is_name h.4.1.0, subst (λ X. X) (selectors tokens depth (h.0 + 1 + 1) row.0 row.1 to) h.4.2),
      )
  only_counted_limit depth from stands behind (primary.Literal part) to h =
      inl (literal_before_side from behind part to h)
  only_counted_limit depth from stands behind (primary.Ref' name _ list place) to h =
      absurd (clash _ stands (ap is_number h.1.0))
  only_counted_limit depth from stands behind (primary.Group' _ inner place) to h =
      absurd (clash _ stands (ap is_number h.2))
  only_counted_limit depth from stands behind (primary.Now place) to h = absurd (clash _ stands (ap is_number h.1))
  only_counted_limit depth from stands behind (primary.Try name place) to h = absurd (clash _ stands (ap is_number h.1))

  -- a selector
  pub only_component : (depth from : ℕ) → HasSymbol tokens from s.PERIOD → (x : Selector) (to : ℕ) →
      SpellsSelector tokens depth from x to → (is_name (what_at tokens (from + 1)) ≡ true) × (to ≡ from + 2)
  only_component depth from stands (Component name place) to h = (ap is_name h.2.0, h.3)
  only_component depth from stands (Subscripts' _ row place) to h =
      absurd (clash _ (ap (is_symbol s.LEFT_ROUND) h.2) (ap (is_symbol s.LEFT_ROUND) stands))

  pub only_bracketed : (depth from : ℕ) → HasSymbol tokens from s.LEFT_ROUND → (x : Selector) (to : ℕ) →
      SpellsSelector tokens depth from x to →
      (list : List Expr) × (m : ℕ) × SpellsSubscriptsList tokens (depth - 1) (from + 1) list m × HasSymbol tokens m
      s.RIGHT_ROUND × (to ≡ m + 1)
  only_bracketed depth from stands (Subscripts' n list place) to h =
      let row = subscripts_of (Subscripts' n list place) in (
        items-the_row-Expr row.0 row.1,
        h.0,
        subst (λ X. X) (subscripts tokens (depth - 1) (from + 1) row.0 row.1 h.0) h.4,
        h.5,
        h.6,
      )
  only_bracketed depth from stands (Component name place) to h =
      absurd (clash _ (ap (is_symbol s.PERIOD) h.1) (ap (is_symbol s.PERIOD) stands))

  pub no_selector : (depth from : ℕ) → is_symbol s.PERIOD (what_at tokens from) ≡ false →
      (is_symbol s.LEFT_ROUND (what_at tokens from) ≡ true → 0 < depth → ⊥) → (x : Selector) (to : ℕ) →
      SpellsSelector tokens depth from x to → ⊥
  no_selector depth from period bracket (Component name place) to h = clash _ (ap (is_symbol s.PERIOD) h.1) period
  no_selector depth from period bracket (Subscripts' _ row place) to h = bracket (ap (is_symbol s.LEFT_ROUND) h.2) h.3

  pub selector_extends : (depth from : ℕ) (x : Selector) (to : ℕ) → SpellsSelector tokens depth from x to →
      extends_operand (what_at tokens from) ≡ true
  selector_extends depth from (Component name place) to h = ap extends_operand h.1
  selector_extends depth from (Subscripts' _ row place) to h = ap extends_operand h.2

number_plain : (token : Option What) → is_number token ≡ true → is_plain token ≡ true
number_plain (Some (what.Word code)) holds = absurd (true≢false (sym holds))
number_plain (Some (what.Id text)) holds = absurd (true≢false (sym holds))
number_plain (Some (what.Number value)) holds = refl
number_plain (Some (what.Decimal whole thousandths)) holds = absurd (true≢false (sym holds))
number_plain (Some (what.Clock milliseconds)) holds = absurd (true≢false (sym holds))
number_plain (Some (what.Bits len value)) holds = absurd (true≢false (sym holds))
number_plain (Some (what.Text text)) holds = absurd (true≢false (sym holds))
number_plain (Some (what.Symbol symbol)) holds = absurd (true≢false (sym holds))
number_plain None holds = absurd (true≢false (sym holds))

both_false : (a b : Bool) → (a || b) ≡ false → (a ≡ false) × (b ≡ false)
both_false true b h = absurd (true≢false h)
both_false false b h = (refl, h)

second_false : (a b : Bool) → (a && b) ≡ false → a ≡ true → b ≡ false
second_false true b h holds = h
second_false false b h holds = absurd (true≢false (sym holds))

-- a literal, where the same tokens stand: `stop` is behind a number
pub literal_others : (tokens others : List Token) (depth from stop : ℕ) → BeginAlike tokens others stop → from ≤ stop →
    (is_plain (what_at tokens from) ≡ true → from + 1 ≤ stop) →
    is_symbol s.LEFT_ROUND (what_at tokens from) ≡ false → is_name (what_at tokens from) ≡ false →
    is_word w.NOW (what_at tokens from) ≡ false → is_word w.TRY (what_at tokens from) ≡ false →
    begins_limit tokens from ≡ false →
    (x : Primary) (to : ℕ) → SpellsPrimary others depth from x to → (part : Literal) × SpellsLiteral others from part to
literal_others tokens others depth from stop agree near far group name now_word try_word limit x to h =
    let here = sym (agree from near) in
    let limits = both_false (is_side (what_at tokens from)) (is_number (what_at tokens from) && is_side
    (what_at tokens (from + 1))) limit in
    only_literal others depth from (ap (is_symbol s.LEFT_ROUND) here ∙ group) (ap is_name here ∙ name)
    (ap (is_word w.NOW) here ∙ now_word) (ap (is_word w.TRY) here ∙ try_word) (ap is_side here ∙ limits.0)
    (λ number. let stands = ap is_number (sym here) ∙ number in
    ap is_side (sym (agree (from + 1) (far (number_plain (what_at tokens from) stands)))) ∙
    second_false (is_number (what_at tokens from)) (is_side (what_at tokens (from + 1))) limits.1 stands)
    x to h

-- where no literal is read, and nothing else begins, no primary is
pub literal_halted : (tokens : List Token) (depth from : ℕ) (halt : Halt) →
    is_symbol s.LEFT_ROUND (what_at tokens from) ≡ false → is_name (what_at tokens from) ≡ false →
    is_word w.NOW (what_at tokens from) ≡ false → is_word w.TRY (what_at tokens from) ≡ false →
    begins_limit tokens from ≡ false → (halt ≢ NoMemory → is_plain (what_at tokens from) ≡ false) →
    IsHalted SpellsLiteral tokens from halt → IsHalted (λ tokens. SpellsPrimary tokens depth) tokens from halt
literal_halted tokens depth from NoMemory group name now_word try_word limit plain h = tt
literal_halted tokens depth from (Refused stop) group name now_word try_word limit plain h =
    let none = plain (λ is. let e = is in cc e) in (
      λ others agree x to read.
          let part = literal_others tokens others depth from stop agree h.1 (λ stands. absurd (clash _ stands none))
          group name now_word try_word limit x to read in
          h.0 others agree part.0 to part.1,
      h.1,
      h.2,
    )
