-- The offset of an element of an array.
use Rattle.std.proofs.Common.{◌≡◌, ℕ, suc, ◌+◌, ◌*◌, ◌<◌, ◌≤◌, ℤ, pos, negsuc, ◌+ℤ◌, ◌-ℤ◌, ◌*ℤ◌, List, [], ◌∷◌, Option, Some, None, length, reverse, take, drop, refl, sym, ap, ◌∙◌, subst, arith, Bool, true, false, leb-true}
use Rattle.std.specs.Prelude.{◌&&◌, nat_le, int_le, unsigned_abs, if◌then◌else◌, option_map, option_and_then, IsSome}
use Rattle.std.specs.List.{list_all}
use Rattle.std.proofs.lemmas.Int.{ints}
use Rattle.std.proofs.lemmas.Option.{same_Some}
use native.Mathlib.Nat.{mul_assoc, mul-le-mul}
use Rattle.pearl_value.specs.declared.cell.Cell.{Cell}
use Rattle.pearl_stack.specs.Frames.{Frame, top_operands}
use Rattle.pearl_instructions.specs.declared.instr.Bounds.{Bounds}
use Rattle.pearl_instructions.specs.Steps.{given, needed, makes}
use Rattle.pearl_instructions.specs.Operators.{number_of, numbers_of, offset_of, index, index_of}
use Rattle.pearl_instructions.specs.Valid.{extent, elements, is_array}
use Rattle.pearl_silent.specs.Indices.{distance_of, distance_at, offset_among}
use Rattle.pearl_silent.specs.Steps.{on_top, Applies, made_on}
use Rattle.pearl_silent.proofs.Applied.{given_some, needed_true, and_true}

-- how far one number is above another
pub above : (a b : ℤ) → int_le a b ≡ true → (d : ℕ) × (b -ℤ a ≡ pos d)
above a b e = by (b -ℤ a) refl
  where
    by : (z : ℤ) → b -ℤ a ≡ z → (d : ℕ) × (b -ℤ a ≡ pos d)
    by (pos d) h = (d, h)
    by (negsuc d) h = absurd (grind (arith, ints, e, h))

extent_is : (b : Bounds) (m : ℕ) → b.high -ℤ b.low ≡ pos m → extent b ≡ suc m
extent_is b m e = ap (λ z. unsigned_abs z + 1) e ∙ omega arith

-- the elements of a dimension and of those behind it
further : (so_far ext d size : ℕ) → d + 1 ≤ ext → (so_far * ext + d + 1) * size ≤ (so_far + 1) * (ext * size)
further so_far ext d size few =
    let more : so_far * ext + d + 1 ≤ (so_far + 1) * ext = omega (arith, few) in
    let all : (so_far * ext + d + 1) * size ≤ (so_far + 1) * ext * size =
    mul-le-mul {n₁ = so_far * ext + d + 1} {m₁ = size} {n₂ = (so_far + 1) * ext} {m₂ = size} more (omega arith) in
    let same : (so_far + 1) * ext * size ≡ (so_far + 1) * (ext * size) = mul_assoc (so_far + 1) ext size in
    omega (arith, all, same)

pub few_left : (so_far limit far : ℕ) (b : Bounds) (bounds : List Bounds) → far + 1 ≤ extent b → (so_far + 1) * elements (b ∷ bounds) ≤ limit →
    (so_far * extent b + far + 1) * elements bounds ≤ limit
few_left so_far limit far b bounds less few = let all = further so_far (extent b) far (elements bounds) less in omega (arith, all, few)

positive : (a b : ℕ) → 0 < a → 0 < b → 0 < a * b
positive a b p q = mul-le-mul {n₁ = 1} {m₁ = 1} {n₂ = a} {m₂ = b} p q

pub elements_some : (bounds : List Bounds) → 0 < elements bounds
elements_some [] = omega arith
elements_some (b ∷ bounds) = positive (extent b) (elements bounds) (omega arith) (elements_some bounds)

pub within_all : (n size limit : ℕ) → 0 < size → n * size ≤ limit → n ≤ limit
within_all n size limit some less =
    let all : n * 1 ≤ n * size = mul-le-mul {n₁ = n} {m₁ = 1} {n₂ = n} {m₂ = size} (omega arith) some in
    omega (arith, all, less)

-- subscripts are numbers

pub numbers_more : (x : Cell) (xs : List Cell) → IsSome (numbers_of (x ∷ xs)) → IsSome (number_of x) × IsSome (numbers_of xs)
numbers_more x xs some = by (number_of x) (numbers_of xs) some
  where
    by : (n : Option ℤ) (ns : Option (List ℤ)) → IsSome (option_and_then (λ n. option_map (λ ns. n ∷ ns) ns) n) → IsSome n × IsSome ns
    by None ns e = cc
    by (Some n) None e = cc
    by (Some n) (Some ns) e = (refl, refl)

among_is : (z : ℤ) (b : Bounds) (bounds : List Bounds) (x : Cell) (xs : List Cell) (n : ℤ) → number_of x ≡ Some n → IsSome (numbers_of xs) →
    offset_among z (b ∷ bounds) (x ∷ xs)
    ≡ (if int_le b.low n && int_le n b.high then offset_among (z *ℤ (b.high -ℤ b.low +ℤ pos 1) +ℤ (n -ℤ b.low)) bounds xs else None)
among_is z b bounds x xs n e some = by (numbers_of xs) refl some
  where
    by : (ns : Option (List ℤ)) → numbers_of xs ≡ ns → IsSome ns →
        offset_among z (b ∷ bounds) (x ∷ xs)
        ≡ (if int_le b.low n && int_le n b.high then offset_among (z *ℤ (b.high -ℤ b.low +ℤ pos 1) +ℤ (n -ℤ b.low)) bounds xs else None)
    by None h some = cc
    by (Some ns) h some = rw (e, h) refl

pub record Further (so_far far : ℕ) (b : Bounds) (bounds : List Bounds) (x : Cell) (xs : List Cell) : Type 0 where
  pub less : far + 1 ≤ extent b
  pub is : offset_among (pos so_far) (b ∷ bounds) (x ∷ xs) ≡ offset_among (pos (so_far * extent b + far)) bounds xs

pub further_is : (so_far far : ℕ) (b : Bounds) (bounds : List Bounds) (x : Cell) (xs : List Cell) (n : ℤ) → int_le b.low b.high ≡ true → number_of x ≡ Some n →
    IsSome (numbers_of xs) → distance_of b n ≡ Some far → Further so_far far b bounds x xs
further_is so_far far b bounds x xs n ordered e some h = by (int_le b.low n && int_le n b.high) refl
  where
    by : (t : Bool) → (int_le b.low n && int_le n b.high) ≡ t → Further so_far far b bounds x xs
    by false t = let none : None ≡ Some far = ap (λ t. if t then Some (unsigned_abs (n -ℤ b.low)) else None) (sym t) ∙ h in cc
    by true t =
        let both = and_true (int_le b.low n) (int_le n b.high) t in
        let wide = above b.low b.high ordered in
        let dist = above b.low n both.0 in
        let rest = above n b.high both.1 in
        let m = wide.0 in
        let d = dist.0 in
        let few : d ≤ m = grind (arith, ints, wide.1, dist.1, rest.1) in
        let told : Some (unsigned_abs (n -ℤ b.low)) ≡ Some far = ap (λ t. if t then Some (unsigned_abs (n -ℤ b.low)) else None) (sym t) ∙ h in
        let same : d ≡ far = ap unsigned_abs (sym dist.1) ∙ same_Some (unsigned_abs (n -ℤ b.low)) far told in
        let long : extent b ≡ suc m = extent_is b m wide.1 in
        let size : b.high -ℤ b.low +ℤ pos 1 ≡ pos (suc m) = ap (λ z. z +ℤ pos 1) wide.1 ∙ grind (arith, ints) in
        let next : pos so_far *ℤ (b.high -ℤ b.low +ℤ pos 1) +ℤ (n -ℤ b.low) ≡ pos (so_far * suc m + d) =
        ap (λ z. pos so_far *ℤ z +ℤ (n -ℤ b.low)) size ∙ (ap (λ z. pos so_far *ℤ pos (suc m) +ℤ z) dist.1 ∙ grind (arith, ints)) in
        let all : pos (so_far * suc m + d) ≡ pos (so_far * extent b + far) = ap (λ k. pos (so_far * k + d)) (sym long) ∙ ap (λ k. pos (so_far * extent b + k)) same in
        record {
          less = omega (arith, few, same, long);
          is = among_is (pos so_far) b bounds x xs n e some
              ∙ (ap (λ t. if t then offset_among (pos so_far *ℤ (b.high -ℤ b.low +ℤ pos 1) +ℤ (n -ℤ b.low)) bounds xs else None) t
              ∙ ap (λ z. offset_among z bounds xs) (next ∙ all));
        }

pub none_is : (so_far : ℕ) (b : Bounds) (bounds : List Bounds) (x : Cell) (xs : List Cell) (n : ℤ) → number_of x ≡ Some n → IsSome (numbers_of xs) → distance_of b n ≡ None →
    offset_among (pos so_far) (b ∷ bounds) (x ∷ xs) ≡ None
none_is so_far b bounds x xs n e some h = by (int_le b.low n && int_le n b.high) refl
  where
    by : (t : Bool) → (int_le b.low n && int_le n b.high) ≡ t → offset_among (pos so_far) (b ∷ bounds) (x ∷ xs) ≡ None
    by true t = let none : Some (unsigned_abs (n -ℤ b.low)) ≡ None = ap (λ t. if t then Some (unsigned_abs (n -ℤ b.low)) else None) (sym t) ∙ h in cc
    by false t = among_is (pos so_far) b bounds x xs n e some
        ∙ ap (λ t. if t then offset_among (pos so_far *ℤ (b.high -ℤ b.low +ℤ pos 1) +ℤ (n -ℤ b.low)) bounds xs else None) t

-- without subscripts, or without dimensions

pub none_left : (so_far : ℕ) (xs : List Cell) → IsSome (numbers_of xs) → offset_among (pos so_far) [] xs ≡ Some (pos so_far)
none_left so_far xs some = by (numbers_of xs) some
  where
    by : (ns : Option (List ℤ)) → IsSome ns → option_and_then (offset_of (pos so_far) []) ns ≡ Some (pos so_far)
    by None some = cc
    by (Some ns) some = refl

-- the limits of an array

pub record IsLimited (bounds : List Bounds) : Type 0 where
  pub few : length bounds ≤ 3
  pub ordered : list_all (λ b. int_le b.low b.high) bounds ≡ true
  pub size : elements bounds ≤ 65536

pub limited : (bounds : List Bounds) → is_array bounds ≡ true → IsLimited bounds
limited bounds e =
    let last = and_true _ (nat_le (elements bounds) 65536) e in
    let mid = and_true _ (list_all (λ b. int_le b.low b.high) bounds) last.0 in
    let first = and_true (nat_le 1 (length bounds)) (nat_le (length bounds) 3) mid.0 in
    record { few = leb-true (length bounds) 3 first.1; ordered = mid.1; size = leb-true (elements bounds) 65536 last.1 }

-- the row, where it applies

pub record Indexes (bounds : List Bounds) (frames : List Frame) : Type 0 where
  pub there : length bounds ≤ length (top_operands frames)
  pub some : IsSome (numbers_of (reverse (take (length bounds) (top_operands frames))))
  pub is : on_top (λ f lower. index bounds f lower) frames
      ≡ made_on (length bounds) (index_of (offset_among (pos 0) bounds (reverse (take (length bounds) (top_operands frames))))) frames

some_of : {A : Type 0} (o : Option A) (x : A) → o ≡ Some x → IsSome o
some_of None x e = cc
some_of (Some y) x e = refl

pub index_applies : (bounds : List Bounds) (frames : List Frame) (room : ℕ) → Applies (on_top (λ f lower. index bounds f lower) frames) room → Indexes bounds frames
index_applies bounds [] room a = absurd a
index_applies bounds (f ∷ lower) room a =
    let n = length bounds in
    let xs = reverse (take n f.operands) in
    let left = drop n f.operands in
    let there = needed_true (nat_le n (length f.operands)) _ room a in
    let ns = given_some (numbers_of xs) _ room there.1 in
    record {
      there = leb-true n (length f.operands) there.0;
      some = some_of (numbers_of xs) ns.0 ns.1;
      is = ap (λ b. needed b (given (numbers_of xs) (λ ns. makes f lower left (index_of (offset_of (pos 0) bounds ns))))) there.0
          ∙ (ap (λ o. given o (λ ns. makes f lower left (index_of (offset_of (pos 0) bounds ns)))) ns.1
          ∙ ap (λ o. makes f lower left (index_of (option_and_then (offset_of (pos 0) bounds) o))) (sym ns.1));
    }

number_at : (o : Option ℤ) (go : ℤ → Option ℕ) (far : ℕ) → option_and_then go o ≡ Some far → (n : ℤ) × (o ≡ Some n) × (go n ≡ Some far)
number_at None go far e = cc
number_at (Some n) go far e = (n, refl, e)

-- where a subscript is outside its bounds
pub none_of : (so_far : ℕ) (all : List Bounds) (b : Bounds) (others : List Bounds) (xs : List Cell) (x : Cell) (more : List Cell) → all ≡ b ∷ others → xs ≡ x ∷ more →
    IsSome (numbers_of xs) → distance_at b x ≡ None → offset_among (pos so_far) all xs ≡ None
none_of so_far all b others xs x more p q some distance =
    let numbers = numbers_more x more (subst (λ xs. IsSome (numbers_of xs)) q some) in
    ap (λ bs. offset_among (pos so_far) bs xs) p ∙ (ap (offset_among (pos so_far) (b ∷ others)) q ∙ by (number_of x) refl numbers.0 numbers.1 distance)
  where
    by : (o : Option ℤ) → number_of x ≡ o → IsSome o → IsSome (numbers_of more) → option_and_then (distance_of b) o ≡ None → offset_among (pos so_far) (b ∷ others) (x ∷ more) ≡ None
    by None e none rest h = cc
    by (Some n) e one rest h = none_is so_far b others x more n e rest h

-- what holds behind a subscript that is within its bounds
pub record Left (so_far far : ℕ) (b : Bounds) (others : List Bounds) (more : List Cell) : Type 0 where
  pub small : so_far * extent b + far + 1 ≤ 65536
  pub ordered : list_all (λ b. int_le b.low b.high) others ≡ true
  pub few : (so_far * extent b + far + 1) * elements others ≤ 65536
  pub numbers : IsSome (numbers_of more)

pub left_of : (so_far far : ℕ) (all : List Bounds) (b : Bounds) (others : List Bounds) (xs : List Cell) (x : Cell) (more : List Cell) → all ≡ b ∷ others → xs ≡ x ∷ more →
    list_all (λ b. int_le b.low b.high) all ≡ true → (so_far + 1) * elements all ≤ 65536 → IsSome (numbers_of xs) → distance_at b x ≡ Some far →
    Left so_far far b others more
left_of so_far far all b others xs x more p q ordered few some distance =
    let both = and_true (int_le b.low b.high) (list_all (λ b. int_le b.low b.high) others) (subst (λ bs. list_all (λ b. int_le b.low b.high) bs ≡ true) p ordered) in
    let numbers = numbers_more x more (subst (λ xs. IsSome (numbers_of xs)) q some) in
    let n = number_at (number_of x) (distance_of b) far distance in
    let f = further_is so_far far b others x more n.0 both.0 n.1 numbers.1 n.2 in
    let left = few_left so_far 65536 far b others f.less (subst (λ bs. (so_far + 1) * elements bs ≤ 65536) p few) in
    record {
      small = within_all (so_far * extent b + far + 1) (elements others) 65536 (elements_some others) left;
      ordered = both.1;
      few = left;
      numbers = numbers.1;
    }
