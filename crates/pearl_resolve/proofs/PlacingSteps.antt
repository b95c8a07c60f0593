-- Things in the places of their numbers, from the last one to the first.
use Rattle.std.proofs.Common.{◌≡◌, ◌≢◌, ◌⊎◌, inl, inr, ℕ, zero, suc, ◌+◌, ◌≤◌, Bool, true, false, cond, nat_eq, if◌then◌else◌, List, [], ◌∷◌, ◌++◌, length, map, replicate, drop, Option, Some, None, option_map, slice_get, refl, sym, ap, subst, ◌∙◌, arith, append_assoc, append-nil, length-append}
use Rattle.std.specs.List.{position, position_from}
use Rattle.std.specs.Option.{option_and_then}
use Rattle.std.proofs.Math.ListN.{set}
use Rattle.std.proofs.Math.Dec.{eqb}
use Rattle.std.proofs.lemmas.Bool.{eq-eqb}
use Rattle.std.proofs.lemmas.Bool.Decides.{eqb_tells}
use Rattle.std.proofs.lemmas.Iterator.Adapters.{position_from-zero}
use Rattle.std.proofs.lemmas.Option.{slice_get-map}
use Rattle.pearl_resolve.proofs.ModuleNumbers.{get_left}
use Rattle.pearl_resolve.specs.Placing.{collected, first_with, for_each, placed_in, put_at}
use Rattle.pearl_resolve.specs.Resolve.{by_number, if_there}

-- what stands at an index
get_dropped : {X : Type 0} (all : List X) (i : ℕ) (x : X) (rest : List X) → drop i all ≡ x ∷ rest → slice_get all i ≡ Some x
get_dropped [] zero x rest is = absurd cc
get_dropped [] (suc i) x rest is = absurd cc
get_dropped (y ∷ all) zero x rest is = let same : y ≡ x = cc in ap Some same
get_dropped (y ∷ all) (suc i) x rest is = get_dropped all i x rest is

none_dropped : {X : Type 0} (all : List X) (i : ℕ) → drop i all ≡ [] → slice_get all i ≡ None
none_dropped [] zero is = refl
none_dropped [] (suc i) is = refl
none_dropped (y ∷ all) zero is = absurd cc
none_dropped (y ∷ all) (suc i) is = none_dropped all i is

next_dropped : {X : Type 0} (all : List X) (i : ℕ) (x : X) (rest : List X) → drop i all ≡ x ∷ rest → drop (suc i) all ≡ rest
next_dropped [] zero x rest is = absurd cc
next_dropped [] (suc i) x rest is = absurd cc
next_dropped (y ∷ all) zero x rest is = let same : all ≡ rest = cc in same
next_dropped (y ∷ all) (suc i) x rest is = next_dropped all i x rest is

chosen : {X : Type 0} (b : Bool) (g : ℕ → Option X) (i : ℕ) (later : Option ℕ) (here there : Option X) → g i ≡ here →
    option_and_then g later ≡ there → option_and_then g (cond b (Some i) later) ≡ (if b then here else there)
chosen true g i later here there one other = one
chosen false g i later here there one other = other

neither : {X : Type 0} (b : Bool) → ◌≡◌ {A = Option X} (if b then None else None) None
neither true = refl
neither false = refl

no_thing : {X : Type 0} (number : ℕ) (numbers : List ℕ) → first_with {X = X} number numbers [] ≡ None
no_thing number [] = refl
no_thing number (own ∷ numbers) = refl

position_at : {X : Type 0} (number : ℕ) (numbers : List ℕ) (all things : List X) (i : ℕ) → drop i all ≡ things →
    option_and_then (slice_get all) (position_from (nat_eq number) i numbers) ≡ first_with number numbers things
position_at number [] all things i is = refl
position_at number (own ∷ numbers) all [] i is =
    let next : i + 1 ≡ suc i = omega arith in
    chosen (nat_eq number own) (slice_get all) i _ None None (none_dropped all i is)
    (position_at number numbers all [] (i + 1) (ap (λ k. drop k all) next ∙ none_next all i is) ∙ no_thing number numbers) ∙ neither (nat_eq number own)
  where
    none_next : {Y : Type 0} (ys : List Y) (k : ℕ) → drop k ys ≡ [] → drop (suc k) ys ≡ []
    none_next [] zero h = refl
    none_next [] (suc k) h = refl
    none_next (y ∷ ys) zero h = absurd cc
    none_next (y ∷ ys) (suc k) h = none_next ys k h
position_at number (own ∷ numbers) all (thing ∷ things) i is =
    let next : i + 1 ≡ suc i = omega arith in
    chosen (nat_eq number own) (slice_get all) i _ (Some thing) _ (get_dropped all i thing things is)
    (position_at number numbers all things (i + 1) (ap (λ k. drop k all) next ∙ next_dropped all i thing things is))

first_is : {X : Type 0} (number : ℕ) (numbers : List ℕ) (things : List X) →
    option_and_then (slice_get things) (position (nat_eq number) numbers) ≡ first_with number numbers things
first_is number numbers things =
    ap (option_and_then (slice_get things)) (position_from-zero (nat_eq number) numbers) ∙ position_at number numbers things things 0 refl

-- the things by their numbers are those in the places
pub by_number_is : {X : Type 0} (numbers : List ℕ) (things : List X) (count number : ℕ) →
    by_number numbers things count number ≡ collected (placed_in numbers things count number)
by_number_is numbers things zero number = refl
by_number_is numbers things (suc count) number =
    λ i. if_there (first_is number numbers things i) (by_number_is numbers things count (number + 1) i)

if_there_map : {X Y : Type 0} (f : X → Y) (o : Option X) (rest : List X) → map f (if_there o rest) ≡ if_there (option_map f o) (map f rest)
if_there_map f None rest = refl
if_there_map f (Some x) rest = refl

and_then_map : {X Y : Type 0} (f : X → Y) (things : List X) (o : Option ℕ) →
    option_map f (option_and_then (slice_get things) o) ≡ option_and_then (slice_get (map f things)) o
and_then_map f things None = refl
and_then_map f things (Some i) = sym (slice_get-map f things i)

-- what is shown of things by their numbers
pub by_number_map : {X Y : Type 0} (f : X → Y) (numbers : List ℕ) (things : List X) (count number : ℕ) →
    map f (by_number numbers things count number) ≡ by_number numbers (map f things) count number
by_number_map f numbers things zero number = refl
by_number_map f numbers things (suc count) number =
    if_there_map f (option_and_then (slice_get things) (position (nat_eq number) numbers)) (by_number numbers things count (number + 1))
    ∙ (λ i. if_there (and_then_map f things (position (nat_eq number) numbers) i) (by_number_map f numbers things count (number + 1) i))

-- nothing is placed yet
pub none_placed : {X : Type 0} (count number : ℕ) (numbers : List ℕ) → replicate count None ≡ placed_in {X = X} numbers [] count number
none_placed zero number numbers = refl
none_placed (suc count) number numbers = λ i. sym (no_thing number numbers) i ∷ none_placed count (number + 1) numbers i

same_for_each : {X : Type 0} (f g : ℕ → X) (count number : ℕ) → ((n : ℕ) → number ≤ n → f n ≡ g n) → for_each f count number ≡ for_each g count number
same_for_each f g zero number same = refl
same_for_each f g (suc count) number same =
    λ i. same number (omega arith) i ∷ same_for_each f g count (number + 1) (λ n h. same n (omega (arith, h))) i

-- the one chosen by a number
is_chosen : {X : Type 0} (n own : ℕ) (x y : X) → n ≡ own → (if nat_eq n own then x else y) ≡ x
is_chosen n own x y is = ap (λ b. if b then x else y) (eq-eqb n own is)

not_chosen : {X : Type 0} (n own : ℕ) (x y : X) → n ≢ own → (if nat_eq n own then x else y) ≡ y
not_chosen n own x y other = by (eqb_tells n own)
  where
    by : ((eqb n own ≡ true) × (n ≡ own)) ⊎ ((eqb n own ≡ false) × (n ≢ own)) → (if nat_eq n own then x else y) ≡ y
    by (inl both) = absurd (other both.1)
    by (inr both) = ap (λ b. if b then x else y) both.0

-- one more is placed
set_at : {X : Type 0} (f : ℕ → X) (own : ℕ) (x : X) (count number j : ℕ) → number + j ≡ own →
    set (for_each f count number) j x ≡ for_each (λ n. if nat_eq n own then x else f n) count number
set_at f own x zero number j is = refl
set_at f own x (suc count) number zero is =
    λ i. sym (is_chosen number own x (f number) (omega (arith, is))) i
    ∷ same_for_each f (λ n. if nat_eq n own then x else f n) count (number + 1) (λ n h. sym (not_chosen n own x (f n) (omega (arith, is, h)))) i
set_at f own x (suc count) number (suc j) is =
    λ i. sym (not_chosen number own x (f number) (omega (arith, is))) i ∷ set_at f own x count (number + 1) j (omega (arith, is)) i

-- so far these things are placed
pub record PlacedSo {X : Type 0} (numbers : List ℕ) (things now : List X) (made : List (Option X)) (count : ℕ) : Type 0 where
  pub left : List X
  pub whole : now ++ left ≡ things
  pub placed : made ≡ placed_in (drop (length now) numbers) left count 0

pub begins : {X : Type 0} (numbers : List ℕ) (things : List X) (made : List (Option X)) (count : ℕ) → made ≡ replicate count None →
    PlacedSo numbers things things made count
begins numbers things made count is =
    record { left = []; whole = append-nil things; placed = is ∙ none_placed count 0 (drop (length things) numbers) }

placed_more : {X : Type 0} (numbers : List ℕ) (things now before : List X) (made more : List (Option X)) (count own : ℕ) (thing : X) →
    PlacedSo numbers things before made count → before ≡ now ++ thing ∷ [] → slice_get numbers (length now) ≡ Some own →
    more ≡ set made own (Some thing) → PlacedSo numbers things now more count
placed_more numbers things now before made more count own thing so is at puts =
    let further : length before ≡ length now + 1 = ap length is ∙ length-append now (thing ∷ []) in
    let rest = drop (length now + 1) numbers in
    let next : length now + 1 ≡ suc (length now) = omega arith in
    let left : drop (length now) numbers ≡ own ∷ rest = get_left numbers (length now) own at ∙ ap (λ n. own ∷ drop n numbers) (sym next) in
    let placed : made ≡ placed_in rest so.left count 0 = so.placed ∙ ap (λ n. placed_in (drop n numbers) so.left count 0) further in
    record {
      left = thing ∷ so.left;
      whole = sym (append_assoc now (thing ∷ []) so.left) ∙ ap (λ l. l ++ so.left) (sym is) ∙ so.whole;
      placed = puts ∙ ap (λ m. set m own (Some thing)) placed
          ∙ set_at (λ n. first_with n rest so.left) own (Some thing) count 0 own (omega arith)
          ∙ ap (λ l. placed_in l (thing ∷ so.left) count 0) (sym left);
    }

placed_past : {X : Type 0} (numbers : List ℕ) (things now before : List X) (made : List (Option X)) (count : ℕ) (thing : X) →
    PlacedSo numbers things before made count → before ≡ now ++ thing ∷ [] → slice_get numbers (length now) ≡ None →
    PlacedSo numbers things now made count
placed_past numbers things now before made count thing so is none =
    let further : length before ≡ length now + 1 = ap length is ∙ length-append now (thing ∷ []) in
    let here : drop (length now) numbers ≡ [] = nothing_left numbers (length now) none in
    let one : length now + 1 ≡ suc (length now) = omega arith in
    let next : drop (length now + 1) numbers ≡ [] = ap (λ k. drop k numbers) one ∙ none_further numbers (length now) here in
    record {
      left = thing ∷ so.left;
      whole = sym (append_assoc now (thing ∷ []) so.left) ∙ ap (λ l. l ++ so.left) (sym is) ∙ so.whole;
      placed = so.placed ∙ ap (λ n. placed_in (drop n numbers) so.left count 0) further
          ∙ ap (λ l. placed_in l so.left count 0) next ∙ ap (λ l. placed_in l (thing ∷ so.left) count 0) (sym here);
    }
  where
    nothing_left : (ns : List ℕ) (k : ℕ) → slice_get ns k ≡ None → drop k ns ≡ []
    nothing_left [] zero h = refl
    nothing_left [] (suc k) h = refl
    nothing_left (n ∷ ns) zero h = absurd cc
    nothing_left (n ∷ ns) (suc k) h = nothing_left ns k h

    none_further : (ns : List ℕ) (k : ℕ) → drop k ns ≡ [] → drop (suc k) ns ≡ []
    none_further [] zero h = refl
    none_further [] (suc k) h = refl
    none_further (n ∷ ns) zero h = absurd cc
    none_further (n ∷ ns) (suc k) h = none_further ns k h

pub placed_next : {X : Type 0} (numbers : List ℕ) (things now before : List X) (made more : List (Option X)) (count : ℕ) (thing : X) →
    PlacedSo numbers things before made count → before ≡ now ++ thing ∷ [] → more ≡ put_at made (slice_get numbers (length now)) thing →
    PlacedSo numbers things now more count
placed_next numbers things now before made more count thing so is puts = by (slice_get numbers (length now)) refl puts
  where
    by : (o : Option ℕ) → slice_get numbers (length now) ≡ o → more ≡ put_at made o thing → PlacedSo numbers things now more count
    by None none p = subst (λ m. PlacedSo numbers things now m count) (sym p) (placed_past numbers things now before made count thing so is none)
    by (Some own) at p = placed_more numbers things now before made more count own thing so is at p

pub placed_all : {X : Type 0} (numbers : List ℕ) (things now : List X) (made : List (Option X)) (count : ℕ) → PlacedSo numbers things now made count →
    now ≡ [] → made ≡ placed_in numbers things count 0
placed_all numbers things now made count so none =
    so.placed
    ∙ ap (λ n. placed_in (drop (length n) numbers) so.left count 0) none
    ∙ ap (λ l. placed_in numbers l count 0) (sym (ap (λ n. n ++ so.left) none) ∙ so.whole)

pub collected_push : {X : Type 0} (made : List X) (place : Option X) (rest : List (Option X)) →
    (made ++ collected (place ∷ [])) ++ collected rest ≡ made ++ collected (place ∷ rest)
collected_push made None rest = ap (λ l. l ++ collected rest) (append-nil made)
collected_push made (Some x) rest = append_assoc made (x ∷ []) (collected rest)
