-- Where no procedure calls itself, no calls go deeper than there are procedures, and so weights add up.
use Rattle.std.proofs.Common.{◌≡◌, ℕ, zero, suc, ◌+◌, ◌<◌, ◌≤◌, max, true, nat_eq, List, [], ◌∷◌, length, map, Option, Some, None, refl, sym, ap, subst, arith, ◌∙◌, true≢false, eq-eqb, eqb-true}
use Rattle.std.specs.Prelude.{slice_get, filter_map}
use Rattle.std.specs.List.{list_any, IsDistinct, cons_option}
use Rattle.std.proofs.lemmas.Map.Steps.{length-le_from_distinct_below}
use Rattle.pearl_calls.proofs.Truths.{by_case, or_left, or_right, or_rest}
use Rattle.pearl_calls.proofs.Ways.{all_other, inside}
use Rattle.pearl_calls.specs.Callers.{Caller, callees_of, calls}
use Rattle.pearl_calls.specs.Cycles.{IsWay, SomeCallsItself}
use Rattle.pearl_calls.specs.Weights.{called, greatest, weight, whole_weight}

there_is : (procedures : List Caller) (i : ℕ) (c : Caller) → slice_get procedures i ≡ Some c → i < length procedures
there_is [] i c h = absurd (cc)
there_is (x ∷ xs) zero c h = omega arith
there_is (x ∷ xs) (suc i) c h = omega (arith, there_is xs i c h)

module _ (procedures : List Caller) where
  -- these are called one after the other from there on
  abbrev Goes : ℕ → List ℕ → Type 0
  Goes from [] = from < length procedures
  Goes from (next ∷ rest) = (calls procedures from next ≡ true) × Goes next rest

  abbrev Starts : Caller → List ℕ → Type 0
  Starts caller [] = Unit {0}
  Starts caller (first ∷ rest) = (list_any (nat_eq first) caller.calls ≡ true) × Goes first rest

  all_there : (rest : List ℕ) (from q : ℕ) → Goes from rest → list_any (nat_eq q) (from ∷ rest) ≡ true → q < length procedures
  all_there [] from q goes h = by_case _ (nat_eq q from)
      (λ same. subst (λ z. z < length procedures) (sym (eqb-true q from same)) goes)
      (λ other. absurd (true≢false (sym (or_rest (nat_eq q from) (list_any (nat_eq q) []) other h))))
  all_there (next ∷ rest) from q goes h = by_case _ (nat_eq q from)
      (λ same. subst (λ z. z < length procedures) (sym (eqb-true q from same)) (inside procedures from next goes.0))
      (λ other. all_there rest next q goes.1 (or_rest (nat_eq q from) (list_any (nat_eq q) (next ∷ rest)) other h))

  way_to : (rest : List ℕ) (from at : ℕ) → Goes from rest → list_any (nat_eq at) rest ≡ true → (through : List ℕ) × IsWay procedures from through at
  way_to [] from at goes h = absurd (true≢false (sym h))
  way_to (next ∷ rest) from at goes h = by_case _ (nat_eq at next)
      (λ same. ([], subst (λ z. calls procedures from z ≡ true) (sym (eqb-true at next same)) goes.0))
      (λ other. let way = way_to rest next at goes.1 (or_rest (nat_eq at next) (list_any (nat_eq at) rest) other h) in (next ∷ way.0, (goes.0, way.1)))

  -- no procedure stands twice on the way, where none calls itself
  apart : (quiet : SomeCallsItself procedures → ⊥) (rest : List ℕ) (from : ℕ) → Goes from rest → IsDistinct nat_eq (from ∷ rest)
  unfolding IsDistinct
  apart quiet [] from goes = (tt, tt)
  apart quiet (next ∷ rest) from goes = by_case _ (list_any (nat_eq from) (next ∷ rest))
      (λ h. absurd (quiet (from, way_to (next ∷ rest) from from goes h)))
      (λ h. (all_other from (next ∷ rest) h, apart quiet rest next goes.1))

  too_deep : (quiet : SomeCallsItself procedures → ⊥) (caller : Caller) (numbers : List ℕ) → length numbers ≡ suc (length procedures) → Starts caller numbers → ⊥
  too_deep quiet caller [] long starts = omega (arith, long)
  too_deep quiet caller (first ∷ rest) long starts =
      let few : suc (length rest) ≤ length procedures =
      length-le_from_distinct_below (first ∷ rest) (length procedures) (apart quiet rest first starts.1) (λ q h. all_there rest first q starts.1 h) in
      omega (arith, few, long)

  none_called : (numbers : List ℕ) → ((number : ℕ) (c : Caller) → list_any (nat_eq number) numbers ≡ true → slice_get procedures number ≡ Some c → ⊥) →
      filter_map (slice_get procedures) numbers ≡ []
  none_called [] h = refl
  none_called (x ∷ xs) h = by (slice_get procedures x) refl
      (none_called xs (λ number c member e. h number c (or_right (nat_eq number x) (list_any (nat_eq number) xs) member) e))
    where
      by : (o : Option Caller) → slice_get procedures x ≡ o → filter_map (slice_get procedures) xs ≡ [] →
          cons_option o (filter_map (slice_get procedures) xs) ≡ []
      by None e rest = rest
      by (Some c) e rest = absurd (h x c (or_left (nat_eq x x) (list_any (nat_eq x) xs) (eq-eqb x x refl)) e)

  same_greatest : (k : ℕ) (numbers : List ℕ) →
      ((number : ℕ) (c : Caller) → list_any (nat_eq number) numbers ≡ true → slice_get procedures number ≡ Some c →
      weight k procedures c ≡ weight (suc k) procedures c) →
      greatest (map (weight k procedures) (filter_map (slice_get procedures) numbers)) ≡
      greatest (map (weight (suc k) procedures) (filter_map (slice_get procedures) numbers))
  same_greatest k [] h = refl
  same_greatest k (x ∷ xs) h = by (slice_get procedures x) refl
      (same_greatest k xs (λ number c member e. h number c (or_right (nat_eq number x) (list_any (nat_eq number) xs) member) e))
    where
      by : (o : Option Caller) → slice_get procedures x ≡ o →
          greatest (map (weight k procedures) (filter_map (slice_get procedures) xs)) ≡
          greatest (map (weight (suc k) procedures) (filter_map (slice_get procedures) xs)) →
          greatest (map (weight k procedures) (cons_option o (filter_map (slice_get procedures) xs))) ≡
          greatest (map (weight (suc k) procedures) (cons_option o (filter_map (slice_get procedures) xs)))
      by None e rest = rest
      by (Some c) e rest =
          ap (λ z. max z (greatest (map (weight k procedures) (filter_map (slice_get procedures) xs))))
          (h x c (or_left (nat_eq x x) (list_any (nat_eq x) xs) (eq-eqb x x refl)) e) ∙
          ap (λ z. max (weight (suc k) procedures c) z) rest

  -- what starts from a procedure goes on from its number
  goes_on : (number : ℕ) (c : Caller) (numbers : List ℕ) → slice_get procedures number ≡ Some c → Starts c numbers → Goes number numbers
  goes_on number c [] e starts = there_is procedures number c e
  goes_on number c (next ∷ rest) e starts =
      (subst (λ o. list_any (nat_eq next) (callees_of o) ≡ true) (sym e) starts.0, starts.1)

  stable : (k : ℕ) (caller : Caller) → ((numbers : List ℕ) → length numbers ≡ suc k → Starts caller numbers → ⊥) →
      weight k procedures caller ≡ weight (suc k) procedures caller
  stable zero caller no_way =
      let e : filter_map (slice_get procedures) caller.calls ≡ [] =
      none_called caller.calls (λ number c member is. no_way (number ∷ []) refl (member, there_is procedures number c is)) in
      let nothing : greatest (map (weight zero procedures) (called procedures caller)) ≡ 0 =
      ap (λ cs. greatest (map (weight zero procedures) cs)) e in
      omega (arith, nothing)
  stable (suc k) caller no_way =
      ap (λ n. caller.own + n) (same_greatest k caller.calls
      (λ number c member e. stable k c
      (λ numbers long starts. no_way (number ∷ numbers) (ap (λ n. suc n) long) (member, goes_on number c numbers e starts))))

pub add_up : (procedures : List Caller) → (SomeCallsItself procedures → ⊥) → (caller : Caller) →
    whole_weight procedures caller ≡ caller.own + greatest (map (whole_weight procedures) (called procedures caller))
add_up procedures quiet caller =
    stable procedures (length procedures) caller (λ numbers long starts. too_deep procedures quiet caller numbers long starts)
