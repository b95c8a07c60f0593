-- Where each thing has a number of its own below their count, it stands at its number.
use Rattle.std.specs.Prelude.{◌≡◌, ℕ, zero, suc, ◌+◌, ◌<◌, nat_eq, nat_lt, Bool, true, false, not, ◌||◌, if◌then◌else◌, List, [], ◌∷◌, length, Option, Some, None, slice_get}
use Rattle.std.specs.Option.{option_and_then}
use Rattle.std.specs.List.{AllByRecursion, IsDistinct, list_any, position, position_or_len}
use Rattle.std.proofs.Common.{refl, ap, ◌∙◌, sym, subst, arith, true≢false}
use Rattle.std.proofs.lemmas.Bool.{eqb-true, eq-eqb, lt-ltb}
use Rattle.std.proofs.lemmas.Option.{none-some, slice_get_within}
use Rattle.std.proofs.lemmas.Map.Steps.{length-le_from_distinct_below}
use Rattle.pearl_resolve.specs.Resolve.{if_there, by_number}
use Rattle.pearl_sound.proofs.ModuleEntries.{neither}
use Rattle.pearl_sound.proofs.SoundParts.{some_one}

pub record IsSome {X : Type 0} (found : Option X) : Type 0 where
  pub thing : X
  pub is : found ≡ Some thing

pub something : {X : Type 0} (xs : List X) (i : ℕ) → i < length xs → IsSome (slice_get xs i)
something [] i less = absurd (omega (arith, less))
something (x ∷ xs) zero less = record { thing = x; is = refl }
something (x ∷ xs) (suc i) less = something xs i (omega (arith, less))

pub at_numbers : {X : Type 0} (numbers : List ℕ) (things : List X) (count from j : ℕ) → j < count →
    ((x : ℕ) → x < from + count → IsSome (option_and_then (slice_get things) (position (nat_eq x) numbers))) →
    slice_get (by_number numbers things count from) j ≡ option_and_then (slice_get things) (position (nat_eq (from + j)) numbers)
at_numbers numbers things zero from j less all = absurd (omega (arith, less))
at_numbers numbers things (suc count) from zero less all =
    let first = all from (omega arith) in
    let same : from ≡ from + 0 = omega arith in
    ap (λ found. slice_get (if_there found (by_number numbers things count (from + 1))) 0) first.is ∙ sym first.is ∙
    ap (λ n. option_and_then (slice_get things) (position (nat_eq n) numbers)) same
at_numbers numbers things (suc count) from (suc j) less all =
    let first = all from (omega arith) in
    let same : from + 1 + j ≡ from + suc j = omega arith in
    ap (λ found. slice_get (if_there found (by_number numbers things count (from + 1))) (suc j)) first.is ∙
    at_numbers numbers things count (from + 1) j (omega (arith, less)) (λ x below. all x (omega (arith, below))) ∙
    ap (λ n. option_and_then (slice_get things) (position (nat_eq n) numbers)) same

pub all_at : {X : Type 0} (P : X → Type 0) (xs : List X) (i : ℕ) (x : X) → AllByRecursion P xs → slice_get xs i ≡ Some x → P x
all_at P [] i x all is = absurd (none-some x is)
all_at P (first ∷ rest) zero x all is = subst P (some_one is) all.0
all_at P (first ∷ rest) (suc i) x all is = all_at P rest i x all.1 is

pub not_same : (x y : ℕ) → nat_eq y x ≡ false → nat_eq x y ≡ false
not_same x y other = by (nat_eq x y) refl
  where
    by : (test : Bool) → nat_eq x y ≡ test → test ≡ false
    by true is = absurd (true≢false (sym (eq-eqb y x (sym (eqb-true x y is))) ∙ other))
    by false is = refl

pub first_at : (numbers : List ℕ) (k x : ℕ) → slice_get numbers k ≡ Some x → IsDistinct nat_eq numbers → position_or_len (nat_eq x) numbers ≡ k
unfolding IsDistinct
first_at [] k x is distinct = absurd (none-some x is)
first_at (first ∷ rest) zero x is distinct =
    ap (λ b. if not b then 1 + position_or_len (nat_eq x) rest else 0) (eq-eqb x first (sym (some_one is)))
first_at (first ∷ rest) (suc k) x is distinct =
    let other = not_same x first (all_at (λ y. nat_eq first y ≡ false) rest k x distinct.0 is) in
    let more = first_at rest k x is distinct.1 in
    ap (λ b. if not b then 1 + position_or_len (nat_eq x) rest else 0) other ∙ omega (arith, more)

pub position_is : (numbers : List ℕ) (k x : ℕ) → slice_get numbers k ≡ Some x → IsDistinct nat_eq numbers → position (nat_eq x) numbers ≡ Some k
position_is numbers k x is distinct =
    let first = first_at numbers k x is distinct in
    ap (λ n. if nat_lt n (length numbers) then Some n else None) first ∙
    ap (λ b. if b then Some k else None) (lt-ltb k (length numbers) (slice_get_within numbers k x is))

-- an element that passes a test
pub record Passes (p : ℕ → Bool) (numbers : List ℕ) : Type 0 where
  pub index : ℕ
  pub number : ℕ
  pub there : slice_get numbers index ≡ Some number
  pub passes : p number ≡ true

pub any_passes : (p : ℕ → Bool) (numbers : List ℕ) → list_any p numbers ≡ true → Passes p numbers
any_passes p [] any = absurd (true≢false (sym any))
any_passes p (first ∷ rest) any = by (p first) refl any (λ more. any_passes p rest more)
  where
    by : (test : Bool) → p first ≡ test → (test || list_any p rest) ≡ true → (list_any p rest ≡ true → Passes p rest) → Passes p (first ∷ rest)
    by true is any more = record { index = 0; number = first; there = refl; passes = is }
    by false is any more =
        let found = more any in record { index = suc found.index; number = found.number; there = found.there; passes = found.passes }

none_passes : (p : ℕ → Bool) (numbers : List ℕ) → list_any p numbers ≡ false → AllByRecursion (λ y. p y ≡ false) numbers
none_passes p [] none = tt
none_passes p (first ∷ rest) none = let parts = neither (p first) (list_any p rest) none in (parts.0, none_passes p rest parts.1)

-- each number below the count is given
pub given : (numbers : List ℕ) (x : ℕ) → AllByRecursion (λ number. number < length numbers) numbers → IsDistinct nat_eq numbers → x < length numbers →
    Passes (nat_eq x) numbers
unfolding IsDistinct
given numbers x below distinct less = by (list_any (nat_eq x) numbers) refl
  where
    inside : (q : ℕ) (test : Bool) → nat_eq q x ≡ test → (test || list_any (nat_eq q) numbers) ≡ true → q < length numbers
    inside q true is any = let same = eqb-true q x is in omega (arith, less, same)
    inside q false is any =
        let found = any_passes (nat_eq q) numbers any in
        let same = eqb-true q found.number found.passes in
        let low = all_at (λ number. number < length numbers) numbers found.index found.number below found.there in
        omega (arith, same, low)

    by : (test : Bool) → list_any (nat_eq x) numbers ≡ test → Passes (nat_eq x) numbers
    by true is = any_passes (nat_eq x) numbers is
    by false is =
        let few = length-le_from_distinct_below (x ∷ numbers) (length numbers) (none_passes (nat_eq x) numbers is, distinct)
        (λ q any. inside q (nat_eq q x) refl any) in
        absurd (omega (arith, few))

pub stands_at : {X : Type 0} (numbers : List ℕ) (things : List X) (k number : ℕ) (thing : X) → length numbers ≡ length things →
    AllByRecursion (λ number. number < length numbers) numbers → IsDistinct nat_eq numbers → slice_get numbers k ≡ Some number →
    slice_get things k ≡ Some thing → slice_get (by_number numbers things (length numbers) 0) number ≡ Some thing
stands_at numbers things k number thing each below distinct is there =
    let zero_more : 0 + number ≡ number = omega arith in
    at_numbers numbers things (length numbers) 0 number (all_at (λ number. number < length numbers) numbers k number below is)
    (λ x less. all_there x (omega (arith, less))) ∙
    ap (λ n. option_and_then (slice_get things) (position (nat_eq n) numbers)) zero_more ∙
    ap (option_and_then (slice_get things)) (position_is numbers k number is distinct) ∙ there
  where
    all_there : (x : ℕ) → x < length numbers → IsSome (option_and_then (slice_get things) (position (nat_eq x) numbers))
    all_there x less =
        let found = given numbers x below distinct less in
        let same = eqb-true x found.number found.passes in
        let within = slice_get_within numbers found.index found.number found.there in
        let here = something things found.index (omega (arith, within, each)) in
        record {
          thing = here.thing;
          is = ap (λ n. option_and_then (slice_get things) (position (nat_eq n) numbers)) same ∙
              ap (option_and_then (slice_get things)) (position_is numbers found.index found.number found.there distinct) ∙ here.is;
        }
