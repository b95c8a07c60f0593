-- What stands at a number of a list.
use Rattle.std.proofs.Common.{◌≡◌, ℕ, zero, suc, ◌+◌, ◌<◌, ◌≤◌, ◌⊎◌, inl, inr, List, [], ◌∷◌, ◌++◌, Option, Some, None, slice_get, length, replicate, refl, sym, ap, ◌∙◌, arith}
use Rattle.std.specs.Prelude.{option_map, take, drop}
use Rattle.std.specs.List.{AllByRecursion}
use Rattle.std.proofs.lemmas.Option.{same_Some}
use Rattle.pearl_value.specs.declared.kind.CellKind.{CellKind}

-- PARTS

get_dropped : {X : Type 0} (xs : List X) (c i : ℕ) → slice_get (drop c xs) i ≡ slice_get xs (c + i)
get_dropped xs zero i = let same : i ≡ zero + i = omega arith in ap (λ n. slice_get xs n) same
get_dropped [] (suc c) i = refl
get_dropped (x ∷ xs) (suc c) i = let same : suc (c + i) ≡ suc c + i = omega arith in get_dropped xs c i ∙ ap (λ n. slice_get (x ∷ xs) n) same

get_taken : {X : Type 0} (xs : List X) (n i : ℕ) (x : X) → slice_get (take n xs) i ≡ Some x → slice_get xs i ≡ Some x
get_taken xs zero i x is = cc
get_taken [] (suc n) i x is = is
get_taken (y ∷ xs) (suc n) zero x is = is
get_taken (y ∷ xs) (suc n) (suc i) x is = get_taken xs n i x is

pub get_copied : {X : Type 0} (n i : ℕ) (x : X) → i < n → slice_get (replicate n x) i ≡ Some x
get_copied zero i x less = absurd (omega (arith, less))
get_copied (suc n) zero x less = refl
get_copied (suc n) (suc i) x less = get_copied n i x (omega (arith, less))

-- what a part of a list is, its elements are
pub part_is : {X : Type 0} (xs part : List X) (c n i : ℕ) (x : X) → take n (drop c xs) ≡ part → slice_get part i ≡ Some x → slice_get xs (c + i) ≡ Some x
part_is xs part c n i x are there = sym (get_dropped xs c i) ∙ get_taken (drop c xs) n i x (ap (λ part. slice_get part i) are ∙ there)

pub one_of : (cells : List CellKind) (c : ℕ) (k : CellKind) → slice_get cells c ≡ Some k → take 1 (drop c cells) ≡ replicate 1 k
one_of [] c k is = cc
one_of (x ∷ cells) zero k is = ap (λ k. k ∷ []) (same_Some x k is)
one_of (x ∷ cells) (suc c) k is = one_of cells c k is

pub taken_less : {X : Type 0} (xs : List X) (n k : ℕ) → n ≤ k → take n (take k xs) ≡ take n xs
taken_less xs zero k less = refl
taken_less xs (suc n) zero less = absurd (omega (arith, less))
taken_less [] (suc n) (suc k) less = refl
taken_less (x ∷ xs) (suc n) (suc k) less = ap (λ rest. x ∷ rest) (taken_less xs n k (omega (arith, less)))

-- ONE LIST BEHIND ANOTHER

pub mapped_there : {X Y : Type 0} (f : X → Y) (found : Option X) (y : Y) → option_map f found ≡ Some y → (x : X) × (found ≡ Some x) × (f x ≡ y)
mapped_there f None y is = cc
mapped_there f (Some x) y is = (x, refl, same_Some (f x) y is)

pub get_front : {X : Type 0} (one two : List X) (i : ℕ) (x : X) → slice_get one i ≡ Some x → slice_get (one ++ two) i ≡ Some x
get_front [] two i x is = cc
get_front (y ∷ one) two zero x is = is
get_front (y ∷ one) two (suc i) x is = get_front one two i x is

pub get_behind : {X : Type 0} (one two : List X) (n i : ℕ) → n ≡ length one + i → slice_get (one ++ two) n ≡ slice_get two i
get_behind [] two n i same = let it : n ≡ i = omega (arith, same) in ap (λ n. slice_get two n) it
get_behind (y ∷ one) two zero i same = absurd (omega (arith, same))
get_behind (y ∷ one) two (suc n) i same = get_behind one two n i (omega (arith, same))

pub cases : {X : Type 0} (found : Option X) → ((x : X) × (found ≡ Some x)) ⊎ (found ≡ None)
cases None = inr refl
cases (Some x) = inl (x, refl)

-- where nothing stands the list has ended
pub outside : {X : Type 0} (xs : List X) (n : ℕ) → slice_get xs n ≡ None → length xs ≤ n
outside [] n none = omega arith
outside (x ∷ xs) zero none = cc
outside (x ∷ xs) (suc n) none = let less = outside xs n none in omega (arith, less)

pub get_within : {X : Type 0} (xs ys : List X) (n : ℕ) → n < length xs → slice_get (xs ++ ys) n ≡ slice_get xs n
get_within [] ys n less = absurd (omega (arith, less))
get_within (x ∷ xs) ys zero less = refl
get_within (x ∷ xs) ys (suc n) less = get_within xs ys n (omega (arith, less))

pub get_last : {X : Type 0} (xs : List X) (x : X) → slice_get (xs ++ x ∷ []) (length xs) ≡ Some x
get_last [] x = refl
get_last (y ∷ xs) x = get_last xs x

-- lists with the same elements are the same
pub same_list : {X : Type 0} (xs ys : List X) → ((n : ℕ) → slice_get xs n ≡ slice_get ys n) → xs ≡ ys
same_list [] [] same = refl
same_list [] (y ∷ ys) same = let first = same 0 in cc
same_list (x ∷ xs) [] same = let first = same 0 in cc
same_list (x ∷ xs) (y ∷ ys) same = ap (λ x. x ∷ xs) (same_Some x y (same 0)) ∙ ap (λ rest. y ∷ rest) (same_list xs ys (λ n. same (suc n)))

-- what holds at each number holds of all
pub all_by_number : {X : Type 0} (P : X → Type 0) (xs : List X) → ((n : ℕ) (x : X) → slice_get xs n ≡ Some x → P x) → AllByRecursion P xs
all_by_number P [] holds = tt
all_by_number P (x ∷ xs) holds = (holds 0 x refl, all_by_number P xs (λ n y is. holds (suc n) y is))
