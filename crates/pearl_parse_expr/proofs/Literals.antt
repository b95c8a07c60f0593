-- Which literals other tokens can spell that begin as these do.
use Rattle.std.proofs.Common.{◌≡◌, ℕ, ◌+◌, ◌≤◌, true, false, List, Option, Some, None, ◌⊎◌, inr, refl, sym, ap, subst}
use Rattle.std.proofs.Common.{◌∙◌, arith, true≢false}
use Rattle.pearl_tree.specs.declared.literal.Duration.{Duration}
use Rattle.pearl_tree.specs.declared.literal.Duration.TheVariants.{Hours, Minutes, Seconds}
use Rattle.pearl_tree.specs.declared.literal.Literal.{Literal}
use Rattle.pearl_tree.specs.declared.literal.Literal.TheVariants as literal
use Rattle.pearl_tree.specs.declared.literal.Secs.{Secs}
use Rattle.pearl_tree.specs.declared.literal.Secs.TheVariants as secs
use Rattle.pearl_tree.specs.declared.token.What.{What}
use Rattle.pearl_tree.specs.declared.token.What.TheVariants as what
use Rattle.pearl_tree.specs.declared.token.Token.{Token}
use Rattle.pearl_tree.specs.Standing.{what_at}
use Rattle.pearl_tree.specs.Expressions.{SpellsSecs, SpellsSeconds, SpellsDuration, SpellsLiteral}
use Rattle.pearl_tree.specs.declared.word_code.TheConstants as w
use Rattle.pearl_tree.specs.Stops.{BeginAlike}
use Rattle.pearl_parse_expr.specs.declared.reading.Halt.{Halt}
use Rattle.pearl_parse_expr.specs.declared.reading.Halt.TheVariants.{Refused, NoMemory}
use Rattle.pearl_parse_expr.specs.Stops.{IsLongest, IsOnly, IsHalted, IsToldBy, Stuck, EndsEarly, is_counted, is_number}
use Rattle.pearl_parse_expr.specs.Stops.{is_plain, is_secs, extends_operand, SpellsMaybeSeconds}

-- a number with the word that it has not
number_then_word : (word : ℕ) (tokens others : List Token) (from stop value : ℕ) →
    BeginAlike tokens others stop → from ≤ stop →
    (is_secs (what_at tokens from) ≡ true → from + 1 ≤ stop) →
    what_at others from ≡ Some (what.Number value) → what_at others (from + 1) ≡ Some (what.Word word) →
    what_at tokens (from + 1) ≡ Some (what.Word word)
number_then_word word tokens others from stop value agree near far number behind =
    (agree (from + 1) (far (ap is_secs (agree from near ∙ number)))) ∙ behind

pub no_duration : (tokens others : List Token) (from stop : ℕ) → BeginAlike tokens others stop → from ≤ stop →
    (is_secs (what_at tokens from) ≡ true → from + 1 ≤ stop) → is_counted w.HRS tokens from ≡ false →
    is_counted w.MIN tokens from ≡ false → Stuck SpellsSeconds tokens from stop →
    (x : Duration) (to : ℕ) → SpellsDuration others from x to → ⊥
no_duration tokens others from stop agree near far no_hours no_minutes stuck (Hours hours minutes seconds place) to h =
    let number = (agree from near) ∙ h.2.0 in
    let word = number_then_word w.HRS tokens others from stop hours.value agree near far h.2.0 h.3 in
    true≢false (rw (number, word) at no_hours)
no_duration tokens others from stop agree near far no_hours no_minutes stuck (Minutes minutes seconds place) to h =
    let number = (agree from near) ∙ h.1.0 in
    let word = number_then_word w.MIN tokens others from stop minutes.value agree near far h.1.0 h.2 in
    true≢false (rw (number, word) at no_minutes)
no_duration tokens others from stop agree near far no_hours no_minutes stuck (Seconds seconds place) to h =
    stuck others agree seconds to h.1

-- where no duration begins at the first token or the second, a literal is one token
pub one_token : (tokens : List Token) (from : ℕ) (halt : Halt) → IsHalted SpellsDuration tokens from halt →
    IsToldBy (from + 1) halt →
    IsOnly SpellsLiteral tokens from (from + 1) (from + 1)
one_token tokens from NoMemory halted close = absurd close
one_token tokens from (Refused stop) halted close = λ others agree x to h. by others
    (λ k near. agree k (omega (arith, close))) x to h
  where
    by : (others : List Token) → BeginAlike tokens others stop → (x : Literal) (to : ℕ) →
        SpellsLiteral others from x to → to ≡ from + 1
    by others agree (literal.Number number) to h = h.1
    by others agree (literal.Bits len value place) to h = h.2
    by others agree (literal.Text text place) to h = h.2
    by others agree (literal.Clock milliseconds place) to h = h.2
    by others agree (literal.Duration duration) to h = absurd (halted.0 others agree duration.value to h)

-- where no token makes a literal and no duration begins, no literal does
pub no_literal : (tokens : List Token) (from : ℕ) (halt : Halt) → is_plain (what_at tokens from) ≡ false →
    IsHalted SpellsDuration tokens from halt → IsHalted SpellsLiteral tokens from halt
no_literal tokens from NoMemory none h = tt
no_literal tokens from (Refused stop) none h = (λ others agree x to g. by others agree x to g, h.1, h.2)
  where
    plain : (others : List Token) → BeginAlike tokens others stop → is_plain (what_at others from) ≡ true → ⊥
    plain others agree stands = true≢false (sym stands ∙ ap is_plain (sym (agree from h.1)) ∙ none)

    by : (others : List Token) → BeginAlike tokens others stop → (x : Literal) (to : ℕ) →
        SpellsLiteral others from x to → ⊥
    by others agree (literal.Number number) to g = plain others agree (ap is_plain g.0.0)
    by others agree (literal.Bits len value place) to g = plain others agree (ap is_plain g.0)
    by others agree (literal.Text text place) to g = plain others agree (ap is_plain g.0)
    by others agree (literal.Clock milliseconds place) to g = plain others agree (ap is_plain g.0)
    by others agree (literal.Duration duration) to g = h.0 others agree duration.value to g

pub same_word : (token : Option What) (a b : ℕ) → token ≡ Some (what.Word a) → token ≡ Some (what.Word b) → a ≡ b
same_word token a b first second = cc

pub secs_end : (tokens : List Token) (from : ℕ) (part : Secs) (to : ℕ) → SpellsSecs tokens from part to → to ≡ from + 1
secs_end tokens from (secs.Number number) to h = h.1
secs_end tokens from (secs.Decimal whole thousandths place) to h = h.2

seconds_clash : (tokens : List Token) (from word : ℕ) (part : Secs) (to : ℕ) → SpellsSeconds tokens from part to →
    what_at tokens (from + 1) ≡ Some (what.Word word) → w.SEC ≡ word
seconds_clash tokens from word part to h stands =
    let end = secs_end tokens from part h.0 h.1 in
    same_word (what_at tokens (from + 1)) w.SEC word (subst (λ k. what_at tokens k ≡ Some (what.Word w.SEC)) end h.2)
    stands

pub seconds_end : (tokens : List Token) (from : ℕ) (part : Secs) (to : ℕ) → SpellsSeconds tokens from part to →
    to ≡ from + 2
seconds_end tokens from part to h = omega (arith, secs_end tokens from part h.0 h.1, h.3)

-- seconds alone, where seconds begin
pub only_seconds : (tokens : List Token) (from : ℕ) (part : Secs) (to : ℕ) → SpellsSeconds tokens from part to →
    IsOnly SpellsDuration tokens from (from + 2) (from + 2)
only_seconds tokens from part to h others agree (Hours hours minutes seconds place) end g =
    absurd (omega (arith, seconds_clash tokens from w.HRS part to h (agree (from + 1) (omega arith) ∙ g.3)))
only_seconds tokens from part to h others agree (Minutes minutes seconds place) end g =
    absurd (omega (arith, seconds_clash tokens from w.MIN part to h (agree (from + 1) (omega arith) ∙ g.2)))
only_seconds tokens from part to h others agree (Seconds seconds place) end g = seconds_end others from seconds end g.1

pub number_extends : (token : Option What) → is_number token ≡ true → extends_operand token ≡ true
number_extends (Some (what.Number value)) h = refl
number_extends (Some (what.Word code)) h = absurd (true≢false (sym h))
number_extends (Some (what.Id text)) h = absurd (true≢false (sym h))
number_extends (Some (what.Decimal whole thousandths)) h = refl
number_extends (Some (what.Clock milliseconds)) h = absurd (true≢false (sym h))
number_extends (Some (what.Bits len value)) h = absurd (true≢false (sym h))
number_extends (Some (what.Text text)) h = absurd (true≢false (sym h))
number_extends (Some (what.Symbol symbol)) h = absurd (true≢false (sym h))
number_extends None h = absurd (true≢false (sym h))

-- hours and minutes, then perhaps seconds
module _ (tokens : List Token) (from end : ℕ) (far : from + 4 ≤ end)
    (hours_word : what_at tokens (from + 1) ≡ Some (what.Word w.HRS))
    (number : is_number (what_at tokens (from + 2)) ≡ true)
    (minutes_word : what_at tokens (from + 3) ≡ Some (what.Word w.MIN))
    (longest : (x : Option Secs) (to : ℕ) → SpellsMaybeSeconds tokens (from + 4) x to →
    (to ≡ end) ⊎ EndsEarly extends_operand tokens end to) where
  pub after_minutes : (x : Duration) (to : ℕ) → SpellsDuration tokens from x to →
      (to ≡ end) ⊎ EndsEarly extends_operand tokens end to
  after_minutes (Hours hours None None place) to h =
      let at : to ≡ from + 2 = omega (arith, h.4, h.5) in
      inr (
        omega arith,
        subst (λ k. extends_operand (what_at tokens k) ≡ true) (sym at)
            (number_extends (what_at tokens (from + 2)) number),
      )
  after_minutes (Hours hours None (Some seconds) place) to h =
      let part = subst (λ m. SpellsSeconds tokens m seconds to) h.4 h.5 in
      absurd (omega (
        arith,
        seconds_clash tokens (from + 2) w.MIN seconds to part
            (subst (λ k. what_at tokens k ≡ Some (what.Word w.MIN)) (omega arith) minutes_word),
      ))
  after_minutes (Hours hours (Some minutes) seconds place) to h =
      let at : h.0 ≡ from + 4 = omega (arith, h.4.2) in
      longest seconds to (subst (λ m. SpellsMaybeSeconds tokens m seconds to) at h.5)
  after_minutes (Minutes minutes seconds place) to h =
      absurd (omega (arith, same_word (what_at tokens (from + 1)) w.HRS w.MIN hours_word h.2))
  after_minutes (Seconds seconds place) to h =
      absurd (omega (arith, seconds_clash tokens from w.HRS seconds to h.1 hours_word))

-- a duration begins with a number or a decimal, and what stands behind that lengthens it
seconds_unit : (tokens : List Token) (from : ℕ) (part : Secs) (to : ℕ) → SpellsSeconds tokens from part to →
    (is_secs (what_at tokens from) ≡ true) × (extends_operand (what_at tokens (from + 1)) ≡ true)
seconds_unit tokens from (secs.Number x) to h = (
  ap is_secs h.1.0.0,
  ap extends_operand (subst (λ k. what_at tokens k ≡ Some (what.Word w.SEC))
      (secs_end tokens from (secs.Number x) h.0 h.1) h.2),
)
seconds_unit tokens from (secs.Decimal a b p) to h = (
  ap is_secs h.1.0,
  ap extends_operand (subst (λ k. what_at tokens k ≡ Some (what.Word w.SEC))
      (secs_end tokens from (secs.Decimal a b p) h.0 h.1) h.2),
)

unit : (tokens : List Token) (from : ℕ) (part : Duration) (to : ℕ) → SpellsDuration tokens from part to →
    (is_secs (what_at tokens from) ≡ true) × (extends_operand (what_at tokens (from + 1)) ≡ true)
unit tokens from (Hours hours minutes seconds place) to h = (ap is_secs h.2.0, ap extends_operand h.3)
unit tokens from (Minutes minutes seconds place) to h = (ap is_secs h.1.0, ap extends_operand h.2)
unit tokens from (Seconds seconds place) to h = seconds_unit tokens from seconds to h.1

-- a literal that begins where a duration was read
pub literal_longest : (tokens : List Token) (from end stop : ℕ) (part : Duration) →
    SpellsDuration tokens from part end → from + 2 ≤ end → end ≤ stop →
    IsLongest SpellsDuration extends_operand tokens from end stop →
    IsLongest SpellsLiteral extends_operand tokens from end stop
literal_longest tokens from end stop part spelled far near longest others agree x to h = by x h
  where
    early : to ≡ from + 1 → EndsEarly extends_operand others end to
    early e = (
      omega (arith, e),
      subst (λ k. extends_operand (what_at others k) ≡ true) (sym e)
          (ap extends_operand (sym (agree (from + 1) (omega arith))) ∙ (unit tokens from part end spelled).1),
    )

    head : is_secs (what_at others from) ≡ true
    head = ap is_secs (sym (agree from (omega arith))) ∙ (unit tokens from part end spelled).0

    by : (x : Literal) → SpellsLiteral others from x to → (to ≡ end) ⊎ EndsEarly extends_operand others end to
    by (literal.Number number) h = inr (early h.1)
    by (literal.Bits len value place) h = absurd (true≢false (sym head ∙ ap is_secs h.0))
    by (literal.Text text place) h = absurd (true≢false (sym head ∙ ap is_secs h.0))
    by (literal.Clock milliseconds place) h = absurd (true≢false (sym head ∙ ap is_secs h.0))
    by (literal.Duration duration) h = longest others agree duration.value to h
