-- Which tokens settle the stop of expressions: those from where they begin. So they have one stop.
use Rattle.std.proofs.Common.{◌≡◌, ◌⊎◌, inl, inr, ℕ, zero, suc, ◌+◌, ◌-◌, ◌<◌, ◌≤◌, List, [], ◌∷◌, length, drop}
use Rattle.std.proofs.Common.{slice_get, refl, sym, ap, ◌∙◌, arith}
use Rattle.std.specs.Option.{option_map}
use Rattle.pearl_tree.specs.declared.token.Token.{Token}
use Rattle.pearl_tree.specs.declared.expression.Expr.{Expr}
use Rattle.pearl_tree.specs.Standing.{what_at}
use Rattle.pearl_tree.specs.Stops.{BeginAlike}
use Rattle.pearl_tree.specs.Expressions.{SpellsWhole}
use Rattle.pearl_parse_expr.specs.Stops.{NoneGoesOn, SomeGoesOn, stop_place}
use Rattle.pearl_parse_expr.specs.Laws.{HasOneStop}
use Rattle.pearl_parse_expr.proofs.Between.{terms_local}
use Rattle.pearl_parse_expr.proofs.Reaching.{begun, begun_alike, order, stands}

rest_at : (others : List Token) (n i : ℕ) → slice_get (drop n others) i ≡ slice_get others (n + i)
rest_at others zero i = let same : i ≡ 0 + i = omega arith in ap (slice_get others) same
rest_at [] (suc n) i = refl
rest_at (x ∷ xs) (suc n) i =
    let next : suc (n + i) ≡ suc n + i = omega arith in rest_at xs n i ∙ ap (slice_get (x ∷ xs)) next

-- what holds of all tokens that begin alike holds of those that are alike from where an expression begins
module _ (tokens : List Token) (from k : ℕ) (within : from ≤ length tokens) where
  abbrev spliced : List Token → List Token
  spliced others = begun tokens from (drop from others)

  behind : (others : List Token) (j : ℕ) → from ≤ j → slice_get (spliced others) j ≡ slice_get others j
  behind others j above =
      let place : j ≡ from + (j - from) = omega arith in
      stands tokens from (drop from others) within (j - from) j place ∙ rest_at others from (j - from) ∙
      ap (slice_get others) (sym place)

  pub none_goes_on :
      ((others : List Token) → BeginAlike tokens others k → (expr : Expr) (to : ℕ) →
      SpellsWhole others from expr to → to ≤ k) →
      NoneGoesOn tokens from k
  none_goes_on none expr to others agree h = none (spliced others) alike expr to moved
    where
      what : (j : ℕ) → from ≤ j → what_at (spliced others) j ≡ what_at others j
      what j above = ap (option_map (λ token. token.what)) (behind others j above)

      alike : BeginAlike tokens (spliced others) k
      alike j near = by (order j from)
        where
          by : (j < from) ⊎ (from ≤ j) → what_at tokens j ≡ what_at (spliced others) j
          by (inl before) = ap (option_map (λ token. token.what))
              (begun_alike tokens from (drop from others) within j before)
          by (inr above) = agree j above near ∙ sym (what j above)

      moved : SpellsWhole (spliced others) from expr to
      moved = (
        terms_local others (spliced others) from to (λ j above below. sym (behind others j above)) 32 from expr to
            h.0 (omega arith) (omega arith),
        h.1,
      )

not_less : (tokens : List Token) (from k n : ℕ) → NoneGoesOn tokens from k → SomeGoesOn tokens from n → k < n → ⊥
not_less tokens from k n none some below =
    let last : some.1 ≤ k = none some.0 some.1 some.2
    (λ j above near. ap (option_map (λ token. token.what)) (some.3 j above (omega (arith, near, below)))) some.4 in
    omega (arith, last, some.5, below)

equal : (k n : ℕ) → (k < n → ⊥) → (n < k → ⊥) → k ≡ n
equal k n less more = by (order k n) (order n k)
  where
    by : (k < n) ⊎ (n ≤ k) → (n < k) ⊎ (k ≤ n) → k ≡ n
    by (inl e) _ = absurd (less e)
    by (inr e) (inl f) = absurd (more f)
    by (inr e) (inr f) = omega (arith, e, f)

pub one_stop : HasOneStop
one_stop tokens from place other one two =
    let same : one.token ≡ two.token =
    equal one.token two.token (not_less tokens from one.token two.token one.none two.some)
    (not_less tokens from two.token one.token two.none one.some) in
    one.stands ∙ ap (stop_place tokens) same ∙ sym two.stands
