-- Two literals that begin at the same token end at the same, or the shorter one before a token that lengthens it.
use Rattle.std.proofs.Common.{le_trans, ◌≡◌, ◌⊎◌, inl, inr, ⊎_elim, ℕ, ◌+◌, ◌<◌, ◌≤◌, Bool, true, false, List, Option, Some, None, refl, sym, subst, ◌∙◌, arith}
use Rattle.pearl_tree.specs.declared.name.Number.{Number}
use Rattle.pearl_tree.specs.declared.literal.Secs.{Secs}
use Rattle.pearl_tree.specs.declared.literal.Secs.TheVariants as secs
use Rattle.pearl_tree.specs.declared.literal.Duration.{Duration}
use Rattle.pearl_tree.specs.declared.literal.Duration.TheVariants.{Hours, Minutes, Seconds}
use Rattle.pearl_tree.specs.declared.literal.Literal.{Literal}
use Rattle.pearl_tree.specs.declared.literal.Literal.TheVariants as literal
use Rattle.pearl_tree.specs.declared.literal.Sign.{Sign}
use Rattle.pearl_tree.specs.declared.literal.Sign.TheVariants as sign
use Rattle.pearl_tree.specs.declared.literal.Const.{Const}
use Rattle.pearl_tree.specs.declared.token.What.{What}
use Rattle.pearl_tree.specs.declared.token.What.TheVariants as what
use Rattle.pearl_tree.specs.declared.token.Token.{Token}
use Rattle.pearl_tree.specs.Standing.{HasWord, HasSymbol, SpellsMaybe, what_at}
use Rattle.pearl_tree.specs.Expressions.{SpellsSecs, SpellsSeconds, SpellsMinutes, SpellsDuration, SpellsLiteral, SpellsSign, SpellsConst}
use Rattle.pearl_tree.specs.Following.{lengthens_literal, HasOneOf, Meet}
use Rattle.pearl_tree.specs.declared.word_code.TheConstants as w
use Rattle.pearl_tree.proofs.Meeting.{has_one, has_none, same_word}

-- what a literal begins with
abbrev pub begins_literal : What → Bool
begins_literal (what.Number _) = true
begins_literal (what.Decimal _ _) = true
begins_literal (what.Bits _ _) = true
begins_literal (what.Text _) = true
begins_literal (what.Clock _) = true
begins_literal _ = false

module _ (tokens : List Token) where
  abbrev Longer : ℕ → Type 0
  Longer = HasOneOf lengthens_literal tokens

  -- ---- durations

  secs_end : (from : ℕ) (part : Secs) (to : ℕ) → SpellsSecs tokens from part to → (to ≡ from + 1) × Longer from
  secs_end from (secs.Number number) to h = (h.1, has_one tokens lengthens_literal from (what.Number number.value) h.0.0 refl)
  secs_end from (secs.Decimal whole thousandths place) to h = (h.2, has_one tokens lengthens_literal from (what.Decimal whole thousandths) h.0 refl)

  pub seconds_end : (from : ℕ) (part : Secs) (to : ℕ) → SpellsSeconds tokens from part to →
      (to ≡ from + 2) × HasWord tokens (from + 1) w.SEC × Longer from
  seconds_end from part to h =
      let one = secs_end from part h.0 h.1 in
      (omega (arith, h.3, one.0), subst (λ k. HasWord tokens k w.SEC) one.0 h.2, one.1)

  maybe_seconds_end : (from : ℕ) (part other : Option Secs) (to end : ℕ) → SpellsMaybe (SpellsSeconds tokens) from part to →
      SpellsMaybe (SpellsSeconds tokens) from other end → Meet Longer to end
  maybe_seconds_end from None None to end h g = inl (h ∙ sym g)
  maybe_seconds_end from None (Some other) to end h g =
      let that = seconds_end from other end g in inr (inl (omega (arith, h, that.0), subst Longer (sym h) that.2))
  maybe_seconds_end from (Some part) None to end h g =
      let this = seconds_end from part to h in inr (inr (omega (arith, g, this.0), subst Longer (sym g) this.2))
  maybe_seconds_end from (Some part) (Some other) to end h g =
      inl ((seconds_end from part to h).0 ∙ sym (seconds_end from other end g).0)

  maybe_seconds_after : (from : ℕ) (part : Option Secs) (to : ℕ) → SpellsMaybe (SpellsSeconds tokens) from part to → from ≤ to
  maybe_seconds_after from None to h = omega (arith, h)
  maybe_seconds_after from (Some part) to h = omega (arith, (seconds_end from part to h).0)

  maybe_minutes_after : (from : ℕ) (part : Option Number) (to : ℕ) → SpellsMaybe (SpellsMinutes tokens) from part to → from ≤ to
  maybe_minutes_after from None to h = omega (arith, h)
  maybe_minutes_after from (Some part) to h = omega (arith, h.2)

  -- [ number MIN ] [ secs SEC ]
  rest_end : (from : ℕ) (minutes also : Option Number) (m n : ℕ) (seconds other : Option Secs) (to end : ℕ) →
      SpellsMaybe (SpellsMinutes tokens) from minutes m → SpellsMaybe (SpellsSeconds tokens) m seconds to →
      SpellsMaybe (SpellsMinutes tokens) from also n → SpellsMaybe (SpellsSeconds tokens) n other end → Meet Longer to end
  rest_end from None None m n seconds other to end h g i j =
      maybe_seconds_end m seconds other to end g (subst (λ k. SpellsMaybe (SpellsSeconds tokens) k other end) (i ∙ sym h) j)
  rest_end from (Some a) (Some b) m n seconds other to end h g i j =
      maybe_seconds_end m seconds other to end g (subst (λ k. SpellsMaybe (SpellsSeconds tokens) k other end) (i.2 ∙ sym h.2) j)
  rest_end from None (Some b) m n None other to end h g i j =
      let at : to ≡ from = g ∙ h in
      inr (inl (omega (arith, at, i.2, maybe_seconds_after n other end j), subst Longer (sym at) (has_one tokens lengthens_literal from (what.Number b.value) i.0.0 refl)))
  rest_end from None (Some b) m n (Some x) other to end h g i j =
      let this = seconds_end from x to (subst (λ k. SpellsSeconds tokens k x to) h g) in
      absurd (omega (arith, same_word tokens (from + 1) w.SEC w.MIN this.1 i.1))
  rest_end from (Some a) None m n seconds None to end h g i j =
      let at : end ≡ from = j ∙ i in
      inr (inr (omega (arith, at, h.2, maybe_seconds_after m seconds to g), subst Longer (sym at) (has_one tokens lengthens_literal from (what.Number a.value) h.0.0 refl)))
  rest_end from (Some a) None m n seconds (Some x) to end h g i j =
      let that = seconds_end from x end (subst (λ k. SpellsSeconds tokens k x end) i j) in
      absurd (omega (arith, same_word tokens (from + 1) w.MIN w.SEC h.1 that.1))

  -- the unit behind the first number, and where the duration ends at the earliest
  abbrev pub unit_of : Duration → ℕ
  unit_of (Hours _ _ _ _) = w.HRS
  unit_of (Minutes _ _ _) = w.MIN
  unit_of (Seconds _ _) = w.SEC

  pub unit_stands : (from : ℕ) (part : Duration) (to : ℕ) → SpellsDuration tokens from part to →
      HasWord tokens (from + 1) (unit_of part) × (from + 2 ≤ to)
  unit_stands from (Hours hours minutes seconds place) to h =
      (h.3, le_trans (maybe_minutes_after (from + 2) minutes h.0 h.4) (maybe_seconds_after h.0 seconds to h.5))
  unit_stands from (Minutes minutes seconds place) to h = (h.2, maybe_seconds_after (from + 2) seconds to h.3)
  unit_stands from (Seconds seconds place) to h =
      let that = seconds_end from seconds to h.1 in (that.1, omega (arith, that.0))

  same_unit : (from : ℕ) (part other : Duration) (to end : ℕ) → SpellsDuration tokens from part to → SpellsDuration tokens from other end →
      unit_of part ≡ unit_of other
  same_unit from part other to end h g =
      same_word tokens (from + 1) (unit_of part) (unit_of other) (unit_stands from part to h).0 (unit_stands from other end g).0

  pub duration_ends : (from : ℕ) (part other : Duration) (to end : ℕ) → SpellsDuration tokens from part to →
      SpellsDuration tokens from other end → Meet Longer to end
  duration_ends from (Hours _ a x _) (Hours _ b y _) to end h g = rest_end (from + 2) a b h.0 g.0 x y to end h.4 h.5 g.4 g.5
  duration_ends from (Minutes _ x _) (Minutes _ y _) to end h g = maybe_seconds_end (from + 2) x y to end h.3 g.3
  duration_ends from (Seconds x _) (Seconds y _) to end h g =
      inl ((seconds_end from x to h.1).0 ∙ sym (seconds_end from y end g.1).0)
  duration_ends from (Hours a b c d) (Minutes e f i) to end h g =
      absurd (omega (arith, same_unit from (Hours a b c d) (Minutes e f i) to end h g))
  duration_ends from (Hours a b c d) (Seconds e f) to end h g =
      absurd (omega (arith, same_unit from (Hours a b c d) (Seconds e f) to end h g))
  duration_ends from (Minutes a b c) (Hours d e f i) to end h g =
      absurd (omega (arith, same_unit from (Minutes a b c) (Hours d e f i) to end h g))
  duration_ends from (Minutes a b c) (Seconds e f) to end h g =
      absurd (omega (arith, same_unit from (Minutes a b c) (Seconds e f) to end h g))
  duration_ends from (Seconds a b) (Hours d e f i) to end h g =
      absurd (omega (arith, same_unit from (Seconds a b) (Hours d e f i) to end h g))
  duration_ends from (Seconds a b) (Minutes d e f) to end h g =
      absurd (omega (arith, same_unit from (Seconds a b) (Minutes d e f) to end h g))

  -- ---- literals

  -- a literal of one token, or a duration
  pub literal_ends_or : (from : ℕ) (part : Literal) (to : ℕ) → SpellsLiteral tokens from part to →
      (to ≡ from + 1) ⊎ ((duration : Duration) × SpellsDuration tokens from duration to)
  literal_ends_or from (literal.Number number) to h = inl h.1
  literal_ends_or from (literal.Bits len value place) to h = inl h.2
  literal_ends_or from (literal.Text text place) to h = inl h.2
  literal_ends_or from (literal.Clock milliseconds place) to h = inl h.2
  literal_ends_or from (literal.Duration duration) to h = inr (duration.value, h)

  pub unit_lengthens : (from : ℕ) (part : Duration) (to : ℕ) → SpellsDuration tokens from part to → Longer (from + 1)
  unit_lengthens from (Hours a b c d) to h = has_one tokens lengthens_literal (from + 1) (what.Word w.HRS) h.3 refl
  unit_lengthens from (Minutes a b c) to h = has_one tokens lengthens_literal (from + 1) (what.Word w.MIN) h.2 refl
  unit_lengthens from (Seconds a b) to h =
      has_one tokens lengthens_literal (from + 1) (what.Word w.SEC) (seconds_end from a to h.1).1 refl

  pub literal_ends : (from : ℕ) (part other : Literal) (to end : ℕ) → SpellsLiteral tokens from part to →
      SpellsLiteral tokens from other end → Meet Longer to end
  literal_ends from part other to end h g = by (literal_ends_or from part to h) (literal_ends_or from other end g)
    where
      by : (to ≡ from + 1) ⊎ ((duration : Duration) × SpellsDuration tokens from duration to) →
          (end ≡ from + 1) ⊎ ((duration : Duration) × SpellsDuration tokens from duration end) → Meet Longer to end
      by (inl a) (inl b) = inl (a ∙ sym b)
      by (inl a) (inr b) =
          inr (inl (omega (arith, a, (unit_stands from b.0 end b.1).1), subst Longer (sym a) (unit_lengthens from b.0 end b.1)))
      by (inr a) (inl b) =
          inr (inr (omega (arith, b, (unit_stands from a.0 to a.1).1), subst Longer (sym b) (unit_lengthens from a.0 to a.1)))
      by (inr a) (inr b) = duration_ends from a.0 b.0 to end a.1 b.1

  pub literal_after : (from : ℕ) (part : Literal) (to : ℕ) → SpellsLiteral tokens from part to → from < to
  literal_after from part to h = ⊎_elim (λ a. omega (arith, a)) (λ a. omega (arith, (unit_stands from a.0 to a.1).1)) (literal_ends_or from part to h)

  -- ---- constants

  pub literal_begins : (from : ℕ) (part : Literal) (to : ℕ) → SpellsLiteral tokens from part to → HasOneOf begins_literal tokens from
  literal_begins from (literal.Number number) to h = has_one tokens begins_literal from (what.Number number.value) h.0.0 refl
  literal_begins from (literal.Bits len value place) to h = has_one tokens begins_literal from (what.Bits len value) h.0 refl
  literal_begins from (literal.Text text place) to h = has_one tokens begins_literal from (what.Text text.value) h.0 refl
  literal_begins from (literal.Clock milliseconds place) to h = has_one tokens begins_literal from (what.Clock milliseconds) h.0 refl
  literal_begins from (literal.Duration duration) to h = by from duration.value to h
    where
      by_secs : (from : ℕ) (part : Secs) (to : ℕ) → SpellsSecs tokens from part to → HasOneOf begins_literal tokens from
      by_secs from (secs.Number number) to h = has_one tokens begins_literal from (what.Number number.value) h.0.0 refl
      by_secs from (secs.Decimal whole thousandths place) to h = has_one tokens begins_literal from (what.Decimal whole thousandths) h.0 refl

      by : (from : ℕ) (part : Duration) (to : ℕ) → SpellsDuration tokens from part to → HasOneOf begins_literal tokens from
      by from (Hours hours _ _ _) to h = has_one tokens begins_literal from (what.Number hours.value) h.2.0 refl
      by from (Minutes minutes _ _) to h = has_one tokens begins_literal from (what.Number minutes.value) h.1.0 refl
      by from (Seconds seconds _) to h = by_secs from seconds h.1.0 h.1.1

  pub no_literal : (from : ℕ) (part : Literal) (to : ℕ) (what : What) → what_at tokens from ≡ Some what → begins_literal what ≡ false →
      SpellsLiteral tokens from part to → ⊥
  no_literal from part to what here not h = has_none tokens begins_literal from what here not (literal_begins from part to h)

  sign_what : (from : ℕ) (part : Sign) (to : ℕ) → SpellsSign tokens from part to →
      (to ≡ from + 1) × ((symbol : ℕ) × HasSymbol tokens from symbol)
  sign_what from sign.Plus to h = (h.1, (_, h.0))
  sign_what from sign.Minus to h = (h.1, (_, h.0))

  pub const_ends : (from : ℕ) (part other : Const) (to end : ℕ) → SpellsConst tokens from part to →
      SpellsConst tokens from other end → Meet Longer to end
  const_ends from part other to end h g = by part.sign other.sign h.2 g.2
    where
      same : (m n : ℕ) → m ≡ n → SpellsLiteral tokens m part.literal to → SpellsLiteral tokens n other.literal end → Meet Longer to end
      same m n e a b = literal_ends n part.literal other.literal to end (subst (λ k. SpellsLiteral tokens k part.literal to) e a) b

      by : (a b : Option Sign) → SpellsMaybe (SpellsSign tokens) from a h.0 → SpellsMaybe (SpellsSign tokens) from b g.0 → Meet Longer to end
      by None None i j = same h.0 g.0 (i ∙ sym j) h.3 g.3
      by (Some a) (Some b) i j = same h.0 g.0 ((sign_what from a h.0 i).0 ∙ sym (sign_what from b g.0 j).0) h.3 g.3
      by None (Some b) i j =
          let sign = (sign_what from b g.0 j).1 in
          absurd (no_literal from part.literal to (what.Symbol sign.0) sign.1 refl (subst (λ k. SpellsLiteral tokens k part.literal to) i h.3))
      by (Some a) None i j =
          let sign = (sign_what from a h.0 i).1 in
          absurd (no_literal from other.literal end (what.Symbol sign.0) sign.1 refl (subst (λ k. SpellsLiteral tokens k other.literal end) j g.3))

  -- a literal without a unit behind its first token is this token
  pub literal_single : (from : ℕ) (part : Literal) (to : ℕ) → SpellsLiteral tokens from part to →
      (HasOneOf lengthens_literal tokens (from + 1) → ⊥) → to ≡ from + 1
  literal_single from part to h none =
      ⊎_elim (λ a. a) (λ a. absurd (none (unit_lengthens from a.0 to a.1))) (literal_ends_or from part to h)
