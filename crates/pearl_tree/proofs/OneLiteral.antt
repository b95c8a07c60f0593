-- What tokens spell from one token up to another is one literal.
use Rattle.std.proofs.Common.{◌≡◌, ℕ, ◌+◌, ◌≤◌, Bool, true, false, List, Option, Some, None, refl, sym, ap, subst, ◌∙◌, arith}
use Rattle.pearl_tree.specs.declared.name.Name.{Name}
use Rattle.pearl_tree.specs.declared.name.Number.{Number}
use Rattle.pearl_tree.specs.declared.literal.Secs.{Secs}
use Rattle.pearl_tree.specs.declared.literal.Secs.TheVariants as secs
use Rattle.pearl_tree.specs.declared.literal.Duration.{Duration}
use Rattle.pearl_tree.specs.declared.literal.Duration.TheVariants.{Hours, Minutes, Seconds}
use Rattle.pearl_tree.specs.declared.literal.Literal.{Literal}
use Rattle.pearl_tree.specs.declared.literal.Literal.TheVariants as literal
use Rattle.pearl_tree.specs.declared.literal.Sign.{Sign}
use Rattle.pearl_tree.specs.declared.literal.Sign.TheVariants as sign
use Rattle.pearl_tree.specs.declared.literal.Const.{Const}
use Rattle.pearl_tree.specs.declared.token.What.{What}
use Rattle.pearl_tree.specs.declared.token.What.TheVariants as what
use Rattle.pearl_tree.specs.declared.token.Token.{Token}
use Rattle.pearl_tree.specs.Standing.{IsAt, HasSymbol, IsName, IsNumber, SpellsMaybe}
use Rattle.pearl_tree.specs.ShownLiterals.{OfNumber, OfBits, OfText, OfClock, OfDuration, shown_literal, shown_const}
use Rattle.pearl_tree.specs.Expressions.{SpellsSecs, SpellsSeconds, SpellsMinutes, SpellsDuration, SpellsLiteral, SpellsSign, SpellsConst}
use Rattle.pearl_tree.specs.Following.{HasOneOf}
use Rattle.pearl_tree.specs.declared.symbol.TheConstants as s
use Rattle.pearl_tree.specs.declared.word_code.TheConstants as w
use Rattle.pearl_tree.proofs.Meeting.{has_one, has_none, same_word, same_symbol}
use Rattle.pearl_tree.proofs.LiteralEnds.{seconds_end, unit_of, unit_stands, no_literal}

abbrev begins_duration : What → Bool
begins_duration (what.Number _) = true
begins_duration (what.Decimal _ _) = true
begins_duration _ = false

module _ (tokens : List Token) where
  pub same_place : (k p q : ℕ) → IsAt tokens k p → IsAt tokens k q → p ≡ q
  same_place k p q h g = let e = sym h ∙ g in cc e

  pub same_name : (k : ℕ) (a b : Name) → IsName tokens k a → IsName tokens k b → a ≡ b
  same_name k a b h g =
      let text : a.text ≡ b.text = let e = sym h.0 ∙ g.0 in cc e in
      let place = same_place k a.place b.place h.1 g.1 in
      λ i. record { text = text i; place = place i }

  pub same_number : (k : ℕ) (a b : Number) → IsNumber tokens k a → IsNumber tokens k b → a ≡ b
  same_number k a b h g =
      let value : a.value ≡ b.value = let e = sym h.0 ∙ g.0 in cc e in
      let place = same_place k a.place b.place h.1 g.1 in
      λ i. record { value = value i; place = place i }

  same_secs : (from : ℕ) (a b : Secs) (to end : ℕ) → SpellsSecs tokens from a to → SpellsSecs tokens from b end → a ≡ b
  same_secs from (secs.Number a) (secs.Number b) to end h g = ap secs.Number (same_number from a b h.0 g.0)
  same_secs from (secs.Decimal v t p) (secs.Decimal u r q) to end h g =
      let value : v ≡ u = let e = sym h.0 ∙ g.0 in cc e in
      let part : t ≡ r = let e = sym h.0 ∙ g.0 in cc e in
      let place = same_place from p q h.1 g.1 in
      λ i. secs.Decimal (value i) (part i) (place i)
  same_secs from (secs.Number a) (secs.Decimal u r q) to end h g = absurd (let e = sym h.0.0 ∙ g.0 in cc e)
  same_secs from (secs.Decimal v t p) (secs.Number b) to end h g = absurd (let e = sym h.0 ∙ g.0.0 in cc e)

  -- [ secs SEC ]
  same_seconds : (from : ℕ) (a b : Option Secs) (to : ℕ) → SpellsMaybe (SpellsSeconds tokens) from a to →
      SpellsMaybe (SpellsSeconds tokens) from b to → a ≡ b
  same_seconds from None None to h g = refl
  same_seconds from (Some a) (Some b) to h g = ap Some (same_secs from a b h.0 g.0 h.1 g.1)
  same_seconds from None (Some b) to h g = absurd (omega (arith, h, (seconds_end tokens from b to g).0))
  same_seconds from (Some a) None to h g = absurd (omega (arith, g, (seconds_end tokens from a to h).0))

  seconds_after : (from : ℕ) (a : Option Secs) (to : ℕ) → SpellsMaybe (SpellsSeconds tokens) from a to → from ≤ to
  seconds_after from None to h = omega (arith, h)
  seconds_after from (Some a) to h = omega (arith, (seconds_end tokens from a to h).0)

  -- minutes stand where no seconds do
  one_unit : (from : ℕ) (a : Number) (m : ℕ) (x : Option Secs) (b : Option Secs) (to : ℕ) → SpellsMinutes tokens from a m →
      SpellsMaybe (SpellsSeconds tokens) m x to → SpellsMaybe (SpellsSeconds tokens) from b to → ⊥
  one_unit from a m x None to h i g = absurd (omega (arith, h.2, seconds_after m x to i, g))
  one_unit from a m x (Some b) to h i g = absurd (omega (arith, same_word tokens (from + 1) w.MIN w.SEC h.1 (seconds_end tokens from b to g).1))

  -- [ number MIN ] [ secs SEC ]
  same_rest : (from : ℕ) (a b : Option Number) (m n : ℕ) (x y : Option Secs) (to : ℕ) → SpellsMaybe (SpellsMinutes tokens) from a m →
      SpellsMaybe (SpellsSeconds tokens) m x to → SpellsMaybe (SpellsMinutes tokens) from b n → SpellsMaybe (SpellsSeconds tokens) n y to →
      (a ≡ b) × (x ≡ y)
  same_rest from None None m n x y to h i g j =
      (refl, same_seconds n x y to (subst (λ k. SpellsMaybe (SpellsSeconds tokens) k x to) (h ∙ sym g) i) j)
  same_rest from (Some a) (Some b) m n x y to h i g j =
      (ap Some (same_number from a b h.0 g.0), same_seconds n x y to (subst (λ k. SpellsMaybe (SpellsSeconds tokens) k x to) (h.2 ∙ sym g.2) i) j)
  same_rest from (Some a) None m n x y to h i g j =
      absurd (one_unit from a m x y to h i (subst (λ k. SpellsMaybe (SpellsSeconds tokens) k y to) g j))
  same_rest from None (Some b) m n x y to h i g j =
      absurd (one_unit from b n y x to g j (subst (λ k. SpellsMaybe (SpellsSeconds tokens) k x to) h i))

  units : (from : ℕ) (a b : Duration) (to : ℕ) → SpellsDuration tokens from a to → SpellsDuration tokens from b to →
      unit_of tokens a ≡ unit_of tokens b
  units from a b to h g = same_word tokens (from + 1) (unit_of tokens a) (unit_of tokens b) (unit_stands tokens from a to h).0 (unit_stands tokens from b to g).0

  pub same_duration : (from : ℕ) (a b : Duration) (to : ℕ) → SpellsDuration tokens from a to → SpellsDuration tokens from b to → a ≡ b
  same_duration from (Hours a x m p) (Hours b y n q) to h g =
      let rest = same_rest (from + 2) x y h.0 g.0 m n to h.4 h.5 g.4 g.5 in
      let hours = same_number from a b h.2 g.2 in
      let place = same_place from p q h.1 g.1 in
      λ i. Hours (hours i) (rest.0 i) (rest.1 i) (place i)
  same_duration from (Minutes a x p) (Minutes b y q) to h g =
      let rest = same_seconds (from + 2) x y to h.3 g.3 in
      let minutes = same_number from a b h.1 g.1 in
      let place = same_place from p q h.0 g.0 in
      λ i. Minutes (minutes i) (rest i) (place i)
  same_duration from (Seconds a p) (Seconds b q) to h g =
      let part = same_secs from a b h.1.0 g.1.0 h.1.1 g.1.1 in
      let place = same_place from p q h.0 g.0 in
      λ i. Seconds (part i) (place i)
  same_duration from (Hours a0 a1 a2 a3) (Minutes b0 b1 b2) to h g = absurd (omega (arith, units from (Hours a0 a1 a2 a3) (Minutes b0 b1 b2) to h g))
  same_duration from (Hours a0 a1 a2 a3) (Seconds b0 b1) to h g = absurd (omega (arith, units from (Hours a0 a1 a2 a3) (Seconds b0 b1) to h g))
  same_duration from (Minutes a0 a1 a2) (Hours b0 b1 b2 b3) to h g = absurd (omega (arith, units from (Minutes a0 a1 a2) (Hours b0 b1 b2 b3) to h g))
  same_duration from (Minutes a0 a1 a2) (Seconds b0 b1) to h g = absurd (omega (arith, units from (Minutes a0 a1 a2) (Seconds b0 b1) to h g))
  same_duration from (Seconds a0 a1) (Hours b0 b1 b2 b3) to h g = absurd (omega (arith, units from (Seconds a0 a1) (Hours b0 b1 b2 b3) to h g))
  same_duration from (Seconds a0 a1) (Minutes b0 b1 b2) to h g = absurd (omega (arith, units from (Seconds a0 a1) (Minutes b0 b1 b2) to h g))

  duration_begins : (from : ℕ) (a : Duration) (to : ℕ) → SpellsDuration tokens from a to → HasOneOf begins_duration tokens from
  duration_begins from (Hours a x m p) to h = has_one tokens begins_duration from (what.Number a.value) h.2.0 refl
  duration_begins from (Minutes a x p) to h = has_one tokens begins_duration from (what.Number a.value) h.1.0 refl
  duration_begins from (Seconds (secs.Number a) p) to h = has_one tokens begins_duration from (what.Number a.value) h.1.1.0.0 refl
  duration_begins from (Seconds (secs.Decimal v t q) p) to h = has_one tokens begins_duration from (what.Decimal v t) h.1.1.0 refl

  pub same_literal : (from : ℕ) (a b : Literal) (to : ℕ) → SpellsLiteral tokens from a to → SpellsLiteral tokens from b to → shown_literal a ≡ shown_literal b
  same_literal from (literal.Number a) (literal.Number b) to h g = ap OfNumber (same_number from a b h.0 g.0)
  same_literal from (literal.Bits l v p) (literal.Bits k u q) to h g =
      let len : l ≡ k = let e = sym h.0 ∙ g.0 in cc e in
      let value : v ≡ u = let e = sym h.0 ∙ g.0 in cc e in
      let place = same_place from p q h.1 g.1 in
      λ i. OfBits (len i) (value i) (place i)
  same_literal from (literal.Text t p) (literal.Text u q) to h g =
      let text : t.value ≡ u.value = let e = sym h.0 ∙ g.0 in cc e in
      let place = same_place from p q h.1 g.1 in
      λ i. OfText (text i).items (place i)
  same_literal from (literal.Clock t p) (literal.Clock u q) to h g =
      let time : t ≡ u = let e = sym h.0 ∙ g.0 in cc e in
      let place = same_place from p q h.1 g.1 in
      λ i. OfClock (time i) (place i)
  same_literal from (literal.Duration a) (literal.Duration b) to h g = ap OfDuration (same_duration from a.value b.value to h g)
  same_literal from (literal.Number a) (literal.Duration b) to h g = absurd (omega (arith, h.1, (unit_stands tokens from b.value to g).1))
  same_literal from (literal.Duration a) (literal.Number b) to h g = absurd (omega (arith, g.1, (unit_stands tokens from a.value to h).1))
  same_literal from (literal.Number a0) (literal.Bits b0 b1 b2) to h g = absurd (let e = sym h.0.0 ∙ g.0 in cc e)
  same_literal from (literal.Number a0) (literal.Text b0 b1) to h g = absurd (let e = sym h.0.0 ∙ g.0 in cc e)
  same_literal from (literal.Number a0) (literal.Clock b0 b1) to h g = absurd (let e = sym h.0.0 ∙ g.0 in cc e)
  same_literal from (literal.Bits a0 a1 a2) (literal.Number b0) to h g = absurd (let e = sym h.0 ∙ g.0.0 in cc e)
  same_literal from (literal.Bits a0 a1 a2) (literal.Text b0 b1) to h g = absurd (let e = sym h.0 ∙ g.0 in cc e)
  same_literal from (literal.Bits a0 a1 a2) (literal.Clock b0 b1) to h g = absurd (let e = sym h.0 ∙ g.0 in cc e)
  same_literal from (literal.Text a0 a1) (literal.Number b0) to h g = absurd (let e = sym h.0 ∙ g.0.0 in cc e)
  same_literal from (literal.Text a0 a1) (literal.Bits b0 b1 b2) to h g = absurd (let e = sym h.0 ∙ g.0 in cc e)
  same_literal from (literal.Text a0 a1) (literal.Clock b0 b1) to h g = absurd (let e = sym h.0 ∙ g.0 in cc e)
  same_literal from (literal.Clock a0 a1) (literal.Number b0) to h g = absurd (let e = sym h.0 ∙ g.0.0 in cc e)
  same_literal from (literal.Clock a0 a1) (literal.Bits b0 b1 b2) to h g = absurd (let e = sym h.0 ∙ g.0 in cc e)
  same_literal from (literal.Clock a0 a1) (literal.Text b0 b1) to h g = absurd (let e = sym h.0 ∙ g.0 in cc e)
  same_literal from (literal.Bits a0 a1 a2) (literal.Duration b) to h g =
      absurd (has_none tokens begins_duration from (what.Bits a0 a1) h.0 refl (duration_begins from b.value to g))
  same_literal from (literal.Duration b) (literal.Bits a0 a1 a2) to h g =
      absurd (has_none tokens begins_duration from (what.Bits a0 a1) g.0 refl (duration_begins from b.value to h))
  same_literal from (literal.Text a0 a1) (literal.Duration b) to h g =
      absurd (has_none tokens begins_duration from (what.Text a0.value) h.0 refl (duration_begins from b.value to g))
  same_literal from (literal.Duration b) (literal.Text a0 a1) to h g =
      absurd (has_none tokens begins_duration from (what.Text a0.value) g.0 refl (duration_begins from b.value to h))
  same_literal from (literal.Clock a0 a1) (literal.Duration b) to h g =
      absurd (has_none tokens begins_duration from (what.Clock a0) h.0 refl (duration_begins from b.value to g))
  same_literal from (literal.Duration b) (literal.Clock a0 a1) to h g =
      absurd (has_none tokens begins_duration from (what.Clock a0) g.0 refl (duration_begins from b.value to h))

  same_sign : (from : ℕ) (a b : Sign) (to end : ℕ) → SpellsSign tokens from a to → SpellsSign tokens from b end → a ≡ b
  same_sign from sign.Plus sign.Plus to end h g = refl
  same_sign from sign.Minus sign.Minus to end h g = refl
  same_sign from sign.Plus sign.Minus to end h g = absurd (omega (arith, same_symbol tokens from s.PLUS s.MINUS h.0 g.0))
  same_sign from sign.Minus sign.Plus to end h g = absurd (omega (arith, same_symbol tokens from s.MINUS s.PLUS h.0 g.0))

  sign_end : (from : ℕ) (a : Sign) (to : ℕ) → SpellsSign tokens from a to → (to ≡ from + 1) × ((symbol : ℕ) × HasSymbol tokens from symbol)
  sign_end from sign.Plus to h = (h.1, (_, h.0))
  sign_end from sign.Minus to h = (h.1, (_, h.0))

  pub same_const : (from : ℕ) (a b : Const) (to : ℕ) → SpellsConst tokens from a to → SpellsConst tokens from b to → shown_const a ≡ shown_const b
  same_const from a b to h g = by a.sign b.sign refl refl h.2 g.2
    where
      made : a.sign ≡ b.sign → h.0 ≡ g.0 → shown_const a ≡ shown_const b
      made e m =
          let part = same_literal g.0 a.literal b.literal to (subst (λ k. SpellsLiteral tokens k a.literal to) m h.3) g.3 in
          let place = same_place from a.place b.place h.1 g.1 in
          λ i. record { sign = e i; literal = part i; place = place i }

      by : (x y : Option Sign) → a.sign ≡ x → b.sign ≡ y → SpellsMaybe (SpellsSign tokens) from x h.0 → SpellsMaybe (SpellsSign tokens) from y g.0 → shown_const a ≡ shown_const b
      by None None d e i j = made (d ∙ sym e) (i ∙ sym j)
      by (Some x) (Some y) d e i j =
          made (d ∙ ap Some (same_sign from x y h.0 g.0 i j) ∙ sym e) ((sign_end from x h.0 i).0 ∙ sym (sign_end from y g.0 j).0)
      by None (Some y) d e i j =
          let sign = (sign_end from y g.0 j).1 in
          absurd (no_literal tokens from a.literal to (what.Symbol sign.0) sign.1 refl (subst (λ k. SpellsLiteral tokens k a.literal to) i h.3))
      by (Some x) None d e i j =
          let sign = (sign_end from x h.0 i).1 in
          absurd (no_literal tokens from b.literal to (what.Symbol sign.0) sign.1 refl (subst (λ k. SpellsLiteral tokens k b.literal to) j g.3))
