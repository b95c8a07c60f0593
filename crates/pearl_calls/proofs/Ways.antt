-- Where calls lead back to a procedure at all, they do so within as many calls as there are procedures.
use Rattle.std.proofs.Common.{◌≡◌, ◌↔◌, ℕ, zero, suc, ◌<◌, ◌≤◌, Bool, true, false, ◌||◌, nat_eq, List, [], ◌∷◌, length, refl, sym, subst, arith, true≢false, eq-eqb, eqb-true}
use Rattle.std.specs.List.{list_any, IsDistinct, AllByRecursion}
use Rattle.std.proofs.lemmas.Map.Steps.{length-le_from_distinct_below}
use Rattle.pearl_calls.proofs.Truths.{by_case, or_left, or_right, or_rest, nor_left, nor_right}
use Rattle.pearl_calls.specs.Callers.{Caller, callees, calls}
use Rattle.pearl_calls.specs.Cycles.{reaches, calls_itself, IsWay, CallsItself}

-- an element that passes is found
pub some_test : (p : ℕ → Bool) (x : ℕ) (xs : List ℕ) → list_any (nat_eq x) xs ≡ true → p x ≡ true → list_any p xs ≡ true
some_test p x [] h u = absurd (true≢false (sym h))
some_test p x (y ∷ ys) h u = by_case _ (nat_eq x y)
    (λ same. or_left (p y) (list_any p ys) (subst (λ z. p z ≡ true) (eqb-true x y same) u))
    (λ other. or_right (p y) (list_any p ys) (some_test p x ys (or_rest (nat_eq x y) (list_any (nat_eq x) ys) other h) u))

record Passing (p : ℕ → Bool) (xs : List ℕ) : Type 0 where
  one : ℕ
  inside : list_any (nat_eq one) xs ≡ true
  passes : p one ≡ true

one_passes : (p : ℕ → Bool) (xs : List ℕ) → list_any p xs ≡ true → Passing p xs
one_passes p [] h = absurd (true≢false (sym h))
one_passes p (x ∷ xs) h = by_case _ (p x)
    (λ yes_. record { one = x; inside = or_left (nat_eq x x) (list_any (nat_eq x) xs) (eq-eqb x x refl); passes = yes_ })
    (λ no_. let found = one_passes p xs (or_rest (p x) (list_any p xs) no_ h) in
    record { one = found.one; inside = or_right (nat_eq found.one x) (list_any (nat_eq found.one) xs) found.inside; passes = found.passes })

pub all_other : (i : ℕ) (xs : List ℕ) → list_any (nat_eq i) xs ≡ false → AllByRecursion (λ y. nat_eq i y ≡ false) xs
all_other i [] h = tt
all_other i (x ∷ xs) h = (nor_left (nat_eq i x) (list_any (nat_eq i) xs) h, all_other i xs (nor_right (nat_eq i x) (list_any (nat_eq i) xs) h))

-- only a procedure that is there calls another
pub inside : (procedures : List Caller) (i c : ℕ) → calls procedures i c ≡ true → i < length procedures
inside [] i c h = absurd (true≢false (sym h))
inside (x ∷ xs) zero c h = omega arith
inside (x ∷ xs) (suc i) c h = omega (arith, inside xs i c h)

module _ (procedures : List Caller) where
  pub way_of : (steps from to : ℕ) → reaches steps procedures from to ≡ true → (through : List ℕ) × IsWay procedures from through to
  way_of zero from to h = absurd (true≢false (sym h))
  way_of (suc steps) from to h =
      let found = one_passes (λ called. nat_eq to called || reaches steps procedures called to) (callees procedures from) h in
      by_case _ (nat_eq to found.one)
      (λ same. ([], subst (λ z. calls procedures from z ≡ true) (sym (eqb-true to found.one same)) found.inside))
      (λ other. let way = way_of steps found.one to (or_rest (nat_eq to found.one) (reaches steps procedures found.one to) other found.passes) in
      (found.one ∷ way.0, (found.inside, way.1)))

  reach_of : (through : List ℕ) (steps from to : ℕ) → length through < steps → IsWay procedures from through to →
      reaches steps procedures from to ≡ true
  reach_of [] zero from to less way = absurd (omega (arith, less))
  reach_of [] (suc steps) from to less way =
      some_test (λ called. nat_eq to called || reaches steps procedures called to) to (callees procedures from) way
      (or_left (nat_eq to to) (reaches steps procedures to to) (eq-eqb to to refl))
  reach_of (next ∷ through) zero from to less way = absurd (omega (arith, less))
  reach_of (next ∷ through) (suc steps) from to less way =
      some_test (λ called. nat_eq to called || reaches steps procedures called to) next (callees procedures from) way.0
      (or_right (nat_eq to next) (reaches steps procedures next to) (reach_of through steps next to (omega (arith, less)) way.1))

  -- a way on which no procedure stands twice
  record Simple (from to : ℕ) : Type 0 where
    through : List ℕ
    way : IsWay procedures from through to
    apart : IsDistinct nat_eq (from ∷ through)

  -- a simple way from one of the procedures on it
  rest_of : (at start : ℕ) (through : List ℕ) (to : ℕ) → IsWay procedures start through to → IsDistinct nat_eq (start ∷ through) →
      list_any (nat_eq at) (start ∷ through) ≡ true → Simple at to
  unfolding IsDistinct
  rest_of at start [] to way apart h = by_case _ (nat_eq at start)
      (λ same. subst (λ z. Simple z to) (sym (eqb-true at start same)) (record { through = []; way = way; apart = apart }))
      (λ other. absurd (true≢false (sym (or_rest (nat_eq at start) (list_any (nat_eq at) []) other h))))
  rest_of at start (next ∷ through) to way apart h = by_case _ (nat_eq at start)
      (λ same. subst (λ z. Simple z to) (sym (eqb-true at start same)) (record { through = next ∷ through; way = way; apart = apart }))
      (λ other. rest_of at next through to way.1 apart.1 (or_rest (nat_eq at start) (list_any (nat_eq at) (next ∷ through)) other h))

  simple : (through : List ℕ) (from to : ℕ) → IsWay procedures from through to → Simple from to
  unfolding IsDistinct
  simple [] from to way = record { through = []; way = way; apart = (tt, tt) }
  simple (next ∷ through) from to way =
      let short = simple through next to way.1 in
      by_case _ (list_any (nat_eq from) (next ∷ short.through))
      (λ h. rest_of from next short.through to short.way short.apart h)
      (λ h. record { through = next ∷ short.through; way = (way.0, short.way); apart = (all_other from (next ∷ short.through) h, short.apart) })

  all_inside : (through : List ℕ) (from to q : ℕ) → IsWay procedures from through to → list_any (nat_eq q) (from ∷ through) ≡ true →
      q < length procedures
  all_inside [] from to q way h = by_case _ (nat_eq q from)
      (λ same. subst (λ z. z < length procedures) (sym (eqb-true q from same)) (inside procedures from to way))
      (λ other. absurd (true≢false (sym (or_rest (nat_eq q from) (list_any (nat_eq q) []) other h))))
  all_inside (next ∷ through) from to q way h = by_case _ (nat_eq q from)
      (λ same. subst (λ z. z < length procedures) (sym (eqb-true q from same)) (inside procedures from next way.0))
      (λ other. all_inside through next to q way.1 (or_rest (nat_eq q from) (list_any (nat_eq q) (next ∷ through)) other h))

  few_calls : (from to : ℕ) → Simple from to → reaches (length procedures) procedures from to ≡ true
  few_calls from to short =
      let few : suc (length short.through) ≤ length procedures =
      length-le_from_distinct_below (from ∷ short.through) (length procedures) short.apart (λ q h. all_inside short.through from to q short.way h) in
      reach_of short.through (length procedures) from to (omega (arith, few)) short.way

pub cycles : (procedures : List Caller) (number : ℕ) → (calls_itself procedures number ≡ true) ↔ CallsItself procedures number
cycles procedures number = (
  λ h. way_of procedures (length procedures) number number h,
  λ way. few_calls procedures number number (simple procedures way.0 number number way.1),
)
