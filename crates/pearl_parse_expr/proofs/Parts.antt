-- Selectors: what other tokens can spell that begin as these do, read up to some part.
use Rattle.std.proofs.Common.{◌≡◌, ℕ, ◌<◌, ◌≤◌, Bool, true, false, ◌||◌, List, [], ◌∷◌, ◌⊎◌, inl, inr}
use Rattle.std.proofs.Common.{refl, sym, ap, subst, ◌∙◌, arith, true≢false}
use Rattle.pearl_tree.specs.declared.expression.Selector.{Selector}
use Rattle.pearl_tree.specs.declared.token.Token.{Token}
use Rattle.pearl_tree.specs.Standing.{what_at}
use Rattle.pearl_tree.specs.Expressions.{SpellsSelector}
use Rattle.pearl_tree.specs.Stops.{BeginAlike}
use Rattle.pearl_parse_expr.specs.Stops.{IsLongest, Stuck, IsOnly, EndsEarly, extends_operand}
use Rattle.pearl_parse_expr.specs.Stops.{SpellsSelectorsList}

pub shorter : (tokens others : List Token) (short long : ℕ) → short ≤ long → BeginAlike tokens others long →
    BeginAlike tokens others short
shorter tokens others short long below agree = λ k h. agree k (omega arith)

-- a list of selectors from `from` ends early, or goes through `end`
abbrev pub SelectorsGo : List Token → ℕ → ℕ → ℕ → ℕ → Type 0
SelectorsGo tokens depth from end stop =
    (others : List Token) → BeginAlike tokens others stop → (xs : List Selector) (to : ℕ) →
    SpellsSelectorsList others depth from xs to →
    EndsEarly extends_operand others end to ⊎ ((ys : List Selector) × SpellsSelectorsList others depth end ys to)

module _ (tokens : List Token) (depth from : ℕ) where
  selectors_step : (end next to : ℕ) (others : List Token) → end < next → extends_operand (what_at others end) ≡ true →
      ((x : Selector) (to : ℕ) → SpellsSelector others depth end x to → to ≡ next) →
      EndsEarly extends_operand others end to ⊎ ((ys : List Selector) × SpellsSelectorsList others depth end ys to) →
      EndsEarly extends_operand others next to ⊎ ((ys : List Selector) × SpellsSelectorsList others depth next ys to)
  selectors_step end next to others ahead opens only (inl early) = inl (omega (arith, early.0), early.1)
  selectors_step end next to others ahead opens only (inr ([], h)) =
      inl (omega (arith, h), subst (λ k. extends_operand (what_at others k) ≡ true) (sym h) opens)
  selectors_step end next to others ahead opens only (inr (y ∷ ys, h)) =
      inr (ys, subst (λ k. SpellsSelectorsList others depth k ys to) (only y h.0 h.1) h.2)

  pub selectors_next : (end stop next last new : ℕ) → SelectorsGo tokens depth from end stop → end ≤ stop →
      end < next → stop ≤ new →
      last ≤ new → extends_operand (what_at tokens end) ≡ true →
      IsOnly (λ tokens. SpellsSelector tokens depth) tokens end next last →
      SelectorsGo tokens depth from next new
  selectors_next end stop next last new go near ahead below reach opens only = λ others agree xs to h.
      selectors_step end next to others ahead (ap extends_operand (sym (agree end (omega arith))) ∙ opens)
      (λ x to h. only others (shorter tokens others last new reach agree) x to h)
      (go others (shorter tokens others stop new below agree) xs to h)

  selectors_stuck : (end to : ℕ) (others : List Token) →
      ((x : Selector) (to : ℕ) → SpellsSelector others depth end x to → ⊥) →
      EndsEarly extends_operand others end to ⊎ ((ys : List Selector) × SpellsSelectorsList others depth end ys to) →
      (to ≡ end) ⊎ EndsEarly extends_operand others end to
  selectors_stuck end to others stuck (inl early) = inr early
  selectors_stuck end to others stuck (inr ([], h)) = inl h
  selectors_stuck end to others stuck (inr (y ∷ ys, h)) = absurd (stuck y h.0 h.1)

  pub selectors_end : (end stop last new : ℕ) → SelectorsGo tokens depth from end stop → stop ≤ new → last ≤ new →
      Stuck (λ tokens. SpellsSelector tokens depth) tokens end last →
      IsLongest (λ tokens. SpellsSelectorsList tokens depth) extends_operand tokens from end new
  selectors_end end stop last new go below reach stuck = λ others agree xs to h.
      selectors_stuck end to others (λ x to h. stuck others (shorter tokens others last new reach agree) x to h)
      (go others (shorter tokens others stop new below agree) xs to h)

pub or_first : (a b : Bool) → a ≡ true → (a || b) ≡ true
or_first true b h = refl
or_first false b h = absurd (true≢false (sym h))

pub or_second : (a b : Bool) → b ≡ true → (a || b) ≡ true
or_second true b h = refl
or_second false b h = h
