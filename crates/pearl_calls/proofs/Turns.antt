-- Where each of some procedures calls one of them, one of them calls itself.
use Rattle.std.proofs.Common.{◌≡◌, ℕ, zero, suc, ◌<◌, ◌≤◌, Bool, true, false, nat_eq, List, [], ◌∷◌, length, refl, sym, ap, subst, arith, true≢false, eqb-true}
use Rattle.std.specs.List.{list_any, IsDistinct}
use Rattle.std.proofs.lemmas.Map.Steps.{length-le_from_distinct_below}
use Rattle.pearl_calls.proofs.Truths.{by_case, or_rest}
use Rattle.pearl_calls.proofs.Ways.{all_other, inside}
use Rattle.pearl_calls.specs.Callers.{Caller, calls}
use Rattle.pearl_calls.specs.Cycles.{IsWay, SomeCallsItself}

-- each of these calls one of these, which is named
pub record Stuck (procedures : List Caller) (among : ℕ → Bool) (next : ℕ → ℕ) : Type 0 where
  pub goes_on : (number : ℕ) → among number ≡ true → calls procedures number (next number) ≡ true
  pub stays : (number : ℕ) → among number ≡ true → among (next number) ≡ true

module _ (procedures : List Caller) (among : ℕ → Bool) (next : ℕ → ℕ) (stuck : Stuck procedures among next) where
  -- from one on, so many
  abbrev trail : ℕ → ℕ → List ℕ
  trail zero number = []
  trail (suc count) number = number ∷ trail count (next number)

  trail_length : (count number : ℕ) → length (trail count number) ≡ count
  trail_length zero number = refl
  trail_length (suc count) number = ap (λ n. suc n) (trail_length count (next number))

  -- each that comes later is come to
  comes_to : (count number later : ℕ) → among number ≡ true → list_any (nat_eq later) (trail count (next number)) ≡ true →
      (through : List ℕ) × IsWay procedures number through later
  comes_to zero number later is h = absurd (true≢false (sym h))
  comes_to (suc count) number later is h = by_case _ (nat_eq later (next number))
      (λ same. ([], subst (λ z. calls procedures number z ≡ true) (sym (eqb-true later (next number) same)) (stuck.goes_on number is)))
      (λ other. let way = comes_to count (next number) later (stuck.stays number is)
      (or_rest (nat_eq later (next number)) (list_any (nat_eq later) (trail count (next (next number)))) other h) in
      (next number ∷ way.0, (stuck.goes_on number is, way.1)))

  data Trail : List ℕ → Type 0 where
    Apart : {numbers : List ℕ} (apart : IsDistinct nat_eq numbers) → Trail numbers
    Meets : {numbers : List ℕ} (turns : SomeCallsItself procedures) → Trail numbers

  one_more : (number : ℕ) (numbers : List ℕ) → list_any (nat_eq number) numbers ≡ false → Trail numbers → Trail (number ∷ numbers)
  unfolding IsDistinct
  one_more number numbers h (Apart apart) = Apart (all_other number numbers h, apart)
  one_more number numbers h (Meets turns) = Meets turns

  trail_from : (count number : ℕ) → among number ≡ true → Trail (trail count number)
  unfolding IsDistinct
  trail_from zero number is = Apart tt
  trail_from (suc count) number is = by_case _ (list_any (nat_eq number) (trail count (next number)))
      (λ h. Meets (number, comes_to count number number is h))
      (λ h. one_more number (trail count (next number)) h (trail_from count (next number) (stuck.stays number is)))

  trail_below : (count number other : ℕ) → among number ≡ true → list_any (nat_eq other) (trail count number) ≡ true → other < length procedures
  trail_below zero number other is h = absurd (true≢false (sym h))
  trail_below (suc count) number other is h = by_case _ (nat_eq other number)
      (λ same. subst (λ z. z < length procedures) (sym (eqb-true other number same)) (inside procedures number (next number) (stuck.goes_on number is)))
      (λ apart. trail_below count (next number) other (stuck.stays number is)
      (or_rest (nat_eq other number) (list_any (nat_eq other) (trail count (next number))) apart h))

  turns_of : (number : ℕ) → among number ≡ true → Trail (trail (suc (length procedures)) number) → SomeCallsItself procedures
  turns_of number is (Meets turns) = turns
  turns_of number is (Apart apart) = absurd (
      let most : length (trail (suc (length procedures)) number) ≤ length procedures =
      length-le_from_distinct_below (trail (suc (length procedures)) number) (length procedures) apart
      (λ other h. trail_below (suc (length procedures)) number other is h) in
      let long : length (trail (suc (length procedures)) number) ≡ suc (length procedures) = trail_length (suc (length procedures)) number in
      omega (arith, most, long))

  pub some_turns : (number : ℕ) → among number ≡ true → SomeCallsItself procedures
  some_turns number is = turns_of number is (trail_from (suc (length procedures)) number is)
