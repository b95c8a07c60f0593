-- The numbers that procedures get by the rule: there are as many as procedures, all below their count and all different. So by
-- its number stands each thing, and nothing else.
use Rattle.std.specs.Prelude.{◌≡◌, ℕ, zero, suc, ◌+◌, ◌≤◌, ◌<◌, nat_eq, Bool, true, false, ◌||◌, List, [], ◌∷◌, length, Some, slice_get}
use Rattle.std.specs.Option.{option_and_then}
use Rattle.std.specs.List.{AllByRecursion, IsDistinct, list_any, position}
use Rattle.std.proofs.Common.{refl, ap, ◌∙◌, sym, subst, arith}
use Rattle.std.proofs.lemmas.Bool.{eqb-true, eq-eqb}
use Rattle.std.proofs.lemmas.Option.{none-some, slice_get_within}
use Rattle.pearl_calls.specs.Callers.{Caller}
use Rattle.pearl_calls.specs.Numberings.{IsNumbering}
use Rattle.pearl_calls.specs.Numbers.{AreNumbers}
use Rattle.pearl_calls.proofs.Offered.{only_procedures}
use Rattle.pearl_resolve.specs.Resolve.{if_there, by_number}
use Rattle.pearl_sound_sizes.proofs.Basics.{some_one}
pub use Rattle.pearl_sound.proofs.Offered.{IsSome, something, each_passes, order_new, placed, numbers_below, numbers_differ, Passes, any_passes, given, first_at, position_is}

pub among : (xs : List ℕ) (i x : ℕ) → slice_get xs i ≡ Some x → list_any (nat_eq x) xs ≡ true
among [] i x is = absurd (none-some x is)
among (y ∷ xs) zero x is = ap (λ b. b || list_any (nat_eq x) xs) (eq-eqb x y (sym (some_one is)))
among (y ∷ xs) (suc i) x is = by (nat_eq x y) (among xs i x is)
  where
    by : (first : Bool) → list_any (nat_eq x) xs ≡ true → (first || list_any (nat_eq x) xs) ≡ true
    by true any = refl
    by false any = any

no_more : (m n : ℕ) → ((p : ℕ) → p < m → p < n) → m ≤ n
no_more zero n all = omega arith
no_more (suc k) n all = let a = all k (omega arith) in omega (arith, a)

pub order_differs : (callers : List Caller) (order : List ℕ) → IsNumbering callers order → IsDistinct nat_eq order
order_differs callers order numbering = (order_new callers [] order numbering.by_rule).1

module _ (callers : List Caller) (order numbers : List ℕ) (numbering : IsNumbering callers order) (are : AreNumbers order numbers) where
  inside : (p : ℕ) → p < length numbers → p < length callers
  inside p less =
      let found = something numbers p less in
      only_procedures callers order p numbering (among order found.thing p (placed callers order numbers numbering are p found.thing found.is))

  -- as many as procedures
  pub numbers_whole : length numbers ≡ length callers
  numbers_whole =
      let a = no_more (length numbers) (length callers) inside in
      let b = no_more (length callers) (length numbers) (λ p less. are.within p (numbering.whole p less)) in
      omega (arith, a, b)

-- where all are different, one stands in one place
pub same_place : (numbers : List ℕ) (k l x : ℕ) → IsDistinct nat_eq numbers → slice_get numbers k ≡ Some x → slice_get numbers l ≡ Some x → k ≡ l
same_place numbers k l x distinct one two = sym (first_at numbers k x one distinct) ∙ first_at numbers l x two distinct

-- each has the property at its number, where the first has this one
abbrev pub AllFrom : {X : Type 0} → (ℕ → X → Type 0) → ℕ → List X → Type 0
AllFrom P number [] = Unit {0}
AllFrom P number (x ∷ rest) = P number x × AllFrom P (number + 1) rest

-- a thing that stands at a number
record Stands {X : Type 0} (P : ℕ → X → Type 0) (numbers : List ℕ) (things : List X) (number : ℕ) : Type 0 where
  pub thing : X
  pub is : option_and_then (slice_get things) (position (nat_eq number) numbers) ≡ Some thing
  pub has : P number thing

stand_from : {X : Type 0} (P : ℕ → X → Type 0) (numbers : List ℕ) (things : List X) (count from : ℕ) →
    ((x : ℕ) → x < from + count → Stands P numbers things x) → AllFrom P from (by_number numbers things count from)
stand_from P numbers things zero from all = tt
stand_from P numbers things (suc count) from all =
    let first = all from (omega arith) in
    subst (λ found. AllFrom P from (if_there found (by_number numbers things count (from + 1)))) (sym first.is)
    (first.has, stand_from P numbers things count (from + 1) (λ x below. all x (omega (arith, below))))

count_from : {X : Type 0} (P : ℕ → X → Type 0) (numbers : List ℕ) (things : List X) (count from : ℕ) →
    ((x : ℕ) → x < from + count → Stands P numbers things x) → length (by_number numbers things count from) ≡ count
count_from P numbers things zero from all = refl
count_from P numbers things (suc count) from all =
    let first = all from (omega arith) in
    ap (λ found. length (if_there found (by_number numbers things count (from + 1)))) first.is ∙
    ap suc (count_from P numbers things count (from + 1) (λ x below. all x (omega (arith, below))))

module _ {X : Type 0} (numbers : List ℕ) (things : List X) (each : length numbers ≡ length things)
    (below : AllByRecursion (λ number. number < length numbers) numbers) (distinct : IsDistinct nat_eq numbers) where
  at_number : (P : ℕ → X → Type 0) → ((k number : ℕ) (thing : X) → slice_get numbers k ≡ Some number → slice_get things k ≡ Some thing → P number thing) →
      (x : ℕ) → x < length numbers → Stands P numbers things x
  at_number P all x less =
      let found = given numbers x below distinct less in
      let same = eqb-true x found.number found.passes in
      let within = slice_get_within numbers found.index found.number found.there in
      let here = something things found.index (omega (arith, within, each)) in
      record {
        thing = here.thing;
        is = ap (λ n. option_and_then (slice_get things) (position (nat_eq n) numbers)) same ∙
            ap (option_and_then (slice_get things)) (position_is numbers found.index found.number found.there distinct) ∙ here.is;
        has = subst (λ n. P n here.thing) (sym same) (all found.index found.number here.thing found.there here.is);
      }

  pub all_numbered : (P : ℕ → X → Type 0) →
      ((k number : ℕ) (thing : X) → slice_get numbers k ≡ Some number → slice_get things k ≡ Some thing → P number thing) →
      AllFrom P 0 (by_number numbers things (length numbers) 0)
  all_numbered P all = stand_from P numbers things (length numbers) 0 (λ x less. at_number P all x (omega (arith, less)))

  pub count_numbered : length (by_number numbers things (length numbers) 0) ≡ length numbers
  count_numbered =
      count_from (λ n x. Unit {0}) numbers things (length numbers) 0
      (λ x less. at_number (λ n x. Unit {0}) (λ k n thing is has. tt) x (omega (arith, less)))
