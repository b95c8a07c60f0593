-- The longest literal that begins at a token, by the numbers and units that stand there.
use Rattle.std.proofs.Common.{◌≡◌, ⊎_elim, ℕ, ◌+◌, ◌≤◌, List, Option, Some, None, sym, subst, ◌∙◌, arith}
use Rattle.pearl_tree.specs.declared.name.Number.{Number}
use Rattle.pearl_tree.specs.declared.literal.Secs.{Secs}
use Rattle.pearl_tree.specs.declared.literal.Duration.{Duration}
use Rattle.pearl_tree.specs.declared.literal.Duration.TheVariants.{Hours, Minutes, Seconds}
use Rattle.pearl_tree.specs.declared.literal.Literal.{Literal}
use Rattle.pearl_tree.specs.declared.literal.Literal.TheVariants as literal
use Rattle.pearl_tree.specs.declared.token.What.TheVariants as what
use Rattle.pearl_tree.specs.declared.token.Token.{Token}
use Rattle.pearl_tree.specs.Standing.{HasWord, SpellsMaybe, what_at}
use Rattle.pearl_tree.specs.Expressions.{SpellsSeconds, SpellsMinutes, SpellsDuration, SpellsLiteral}
use Rattle.pearl_tree.specs.declared.word_code.TheConstants as w
use Rattle.pearl_tree.proofs.Meeting.{same_word}
use Rattle.pearl_tree.proofs.LiteralEnds.{seconds_end, literal_ends_or, unit_of, unit_stands}

module _ (tokens : List Token) where
  -- no literal that begins there ends behind `to`
  abbrev pub IsLongestLiteral : ℕ → ℕ → Type 0
  IsLongestLiteral from to = (other : Literal) (end : ℕ) → SpellsLiteral tokens from other end → end ≤ to

  abbrev pub HasNoSeconds : ℕ → Type 0
  HasNoSeconds from = (part : Secs) (end : ℕ) → SpellsSeconds tokens from part end → ⊥

  abbrev pub HasNoMinutes : ℕ → Type 0
  HasNoMinutes from = (part : Number) (end : ℕ) → SpellsMinutes tokens from part end → ⊥

  -- [ secs SEC ], read wherever it stands
  abbrev pub ReadsSeconds : ℕ → Option Secs → ℕ → Type 0
  ReadsSeconds from None to = (to ≡ from) × HasNoSeconds from
  ReadsSeconds from (Some part) to = SpellsSeconds tokens from part to

  -- [ number MIN ], read wherever it stands
  abbrev pub ReadsMinutes : ℕ → Option Number → ℕ → Type 0
  ReadsMinutes from None to = (to ≡ from) × HasNoMinutes from
  ReadsMinutes from (Some part) to = SpellsMinutes tokens from part to

  seconds_longest : (from : ℕ) (part other : Option Secs) (to end : ℕ) → ReadsSeconds from part to → SpellsMaybe (SpellsSeconds tokens) from other end → end ≤ to
  seconds_longest from None None to end h g = omega (arith, h.0, g)
  seconds_longest from None (Some other) to end h g = absurd (h.1 other end g)
  seconds_longest from (Some part) None to end h g = omega (arith, (seconds_end tokens from part to h).0, g)
  seconds_longest from (Some part) (Some other) to end h g =
      omega (arith, (seconds_end tokens from part to h).0, (seconds_end tokens from other end g).0)

  -- no minutes stand where seconds do
  seconds_no_minutes : (from : ℕ) (part : Secs) (to : ℕ) (number : Number) (end : ℕ) → SpellsSeconds tokens from part to →
      SpellsMinutes tokens from number end → ⊥
  seconds_no_minutes from part to number end h g =
      absurd (omega (arith, same_word tokens (from + 1) w.SEC w.MIN (seconds_end tokens from part to h).1 g.1))

  reads_seconds_after : (from : ℕ) (part : Option Secs) (to : ℕ) → ReadsSeconds from part to → from ≤ to
  reads_seconds_after from None to h = omega (arith, h.0)
  reads_seconds_after from (Some part) to h = omega (arith, (seconds_end tokens from part to h).0)

  rest_longest : (from : ℕ) (minutes also : Option Number) (m n : ℕ) (seconds other : Option Secs) (to end : ℕ) → ReadsMinutes from minutes m →
      ReadsSeconds m seconds to → SpellsMaybe (SpellsMinutes tokens) from also n → SpellsMaybe (SpellsSeconds tokens) n other end → end ≤ to
  rest_longest from None None m n seconds other to end h i g j =
      seconds_longest m seconds other to end i (subst (λ k. SpellsMaybe (SpellsSeconds tokens) k other end) (g ∙ sym h.0) j)
  rest_longest from (Some a) (Some b) m n seconds other to end h i g j =
      seconds_longest m seconds other to end i (subst (λ k. SpellsMaybe (SpellsSeconds tokens) k other end) (g.2 ∙ sym h.2) j)
  rest_longest from None (Some b) m n seconds other to end h i g j = absurd (h.1 b n g)
  rest_longest from (Some a) None m n seconds None to end h i g j = omega (arith, h.2, reads_seconds_after m seconds to i, g, j)
  rest_longest from (Some a) None m n seconds (Some other) to end h i g j =
      absurd (seconds_no_minutes from other end a m (subst (λ k. SpellsSeconds tokens k other end) g j) h)

  -- number HRS [ number MIN ] [ secs SEC ]
  pub longest_hours : (from : ℕ) (minutes : Option Number) (m : ℕ) (seconds : Option Secs) (to : ℕ) → HasWord tokens (from + 1) w.HRS →
      ReadsMinutes (from + 2) minutes m → ReadsSeconds m seconds to → IsLongestLiteral from to
  longest_hours from minutes m seconds to unit h i other end g = ⊎_elim (λ a. omega (arith, a, ahead)) (λ a. by a.0 a.1) (literal_ends_or tokens from other end g)
    where
      minutes_after : (o : Option Number) → ReadsMinutes (from + 2) o m → from + 2 ≤ m
      minutes_after None h = omega (arith, h.0)
      minutes_after (Some part) h = omega (arith, h.2)

      ahead : from + 2 ≤ to
      ahead = let first = minutes_after minutes h in omega (arith, first, reads_seconds_after m seconds to i)

      same : (part : Duration) → SpellsDuration tokens from part end → unit_of tokens part ≡ w.HRS
      same part g = same_word tokens (from + 1) (unit_of tokens part) w.HRS (unit_stands tokens from part end g).0 unit

      by : (part : Duration) → SpellsDuration tokens from part end → end ≤ to
      by (Hours a b c d) g = rest_longest (from + 2) minutes b m g.0 seconds c to end h i g.4 g.5
      by (Minutes a b c) g = absurd (omega (arith, same (Minutes a b c) g))
      by (Seconds a b) g = absurd (omega (arith, same (Seconds a b) g))

  -- number MIN [ secs SEC ]
  pub longest_minutes : (from : ℕ) (seconds : Option Secs) (to : ℕ) → HasWord tokens (from + 1) w.MIN → ReadsSeconds (from + 2) seconds to →
      IsLongestLiteral from to
  longest_minutes from seconds to unit i other end g =
      ⊎_elim (λ a. omega (arith, a, reads_seconds_after (from + 2) seconds to i)) (λ a. by a.0 a.1) (literal_ends_or tokens from other end g)
    where
      same : (part : Duration) → SpellsDuration tokens from part end → unit_of tokens part ≡ w.MIN
      same part g = same_word tokens (from + 1) (unit_of tokens part) w.MIN (unit_stands tokens from part end g).0 unit

      by : (part : Duration) → SpellsDuration tokens from part end → end ≤ to
      by (Hours a b c d) g = absurd (omega (arith, same (Hours a b c d) g))
      by (Minutes a b c) g = seconds_longest (from + 2) seconds b to end i g.3
      by (Seconds a b) g = absurd (omega (arith, same (Seconds a b) g))

  -- secs SEC
  pub longest_seconds : (from : ℕ) → HasWord tokens (from + 1) w.SEC → IsLongestLiteral from (from + 2)
  longest_seconds from unit other end g =
      ⊎_elim (λ a. omega (arith, a)) (λ a. by a.0 a.1) (literal_ends_or tokens from other end g)
    where
      same : (part : Duration) → SpellsDuration tokens from part end → unit_of tokens part ≡ w.SEC
      same part g = same_word tokens (from + 1) (unit_of tokens part) w.SEC (unit_stands tokens from part end g).0 unit

      by : (part : Duration) → SpellsDuration tokens from part end → end ≤ from + 2
      by (Hours a b c d) g = absurd (omega (arith, same (Hours a b c d) g))
      by (Minutes a b c) g = absurd (omega (arith, same (Minutes a b c) g))
      by (Seconds a b) g = omega (arith, (seconds_end tokens from a end g.1).0)

  -- one token without a unit behind it
  pub longest_single : (from : ℕ) → (HasWord tokens (from + 1) w.HRS → ⊥) → (HasWord tokens (from + 1) w.MIN → ⊥) →
      (HasWord tokens (from + 1) w.SEC → ⊥) → IsLongestLiteral from (from + 1)
  longest_single from no_hours no_minutes no_seconds other end g =
      ⊎_elim (λ a. omega (arith, a)) (λ a. absurd (by a.0 (unit_stands tokens from a.0 end a.1).0)) (literal_ends_or tokens from other end g)
    where
      by : (part : Duration) → HasWord tokens (from + 1) (unit_of tokens part) → ⊥
      by (Hours a b c d) h = no_hours h
      by (Minutes a b c) h = no_minutes h
      by (Seconds a b) h = no_seconds h

  -- a decimal without SEC behind it is no literal
  pub no_decimal : (from whole thousandths : ℕ) → what_at tokens from ≡ Some (what.Decimal whole thousandths) →
      (HasWord tokens (from + 1) w.SEC → ⊥) → (other : Literal) (end : ℕ) → SpellsLiteral tokens from other end → ⊥
  no_decimal from whole thousandths here none (literal.Number _) end g = absurd (let e = sym here ∙ g.0.0 in cc e)
  no_decimal from whole thousandths here none (literal.Bits _ _ _) end g = absurd (let e = sym here ∙ g.0 in cc e)
  no_decimal from whole thousandths here none (literal.Text _ _) end g = absurd (let e = sym here ∙ g.0 in cc e)
  no_decimal from whole thousandths here none (literal.Clock _ _) end g = absurd (let e = sym here ∙ g.0 in cc e)
  no_decimal from whole thousandths here none (literal.Duration part) end g = by part.value g
    where
      by : (part : Duration) → SpellsDuration tokens from part end → ⊥
      by (Hours _ _ _ _) g = absurd (let e = sym here ∙ g.2.0 in cc e)
      by (Minutes _ _ _) g = absurd (let e = sym here ∙ g.1.0 in cc e)
      by (Seconds part _) g = none (seconds_end tokens from part end g.1).1
