-- The offset that Index finds is the number of elements before the one that is named.
use Rattle.std.proofs.Common.{◌≡◌, ℕ, suc, ◌+◌, ◌*◌, ◌<◌, ◌≤◌, ℤ, pos, negsuc, ◌+ℤ◌, ◌-ℤ◌, ◌*ℤ◌, List, [], ◌∷◌, ◌++◌, Option, Some, None, length, map, reverse, take, drop, refl, sym, ap, ◌∙◌, subst, arith, Bool, true, false}
use Rattle.std.specs.Prelude.{◌&&◌, int_le, unsigned_abs, if◌then◌else◌, option_map, option_and_then}
use Rattle.std.proofs.lemmas.Int.{ints}
use Rattle.std.proofs.lemmas.Option.{same_Some}
use Rattle.std.proofs.lemmas.List.{length-reverse, reverse-reverse, take_at, append_assoc}
use Rattle.std.proofs.lemmas.Grind.{reverse_onto}
use Rattle.std.proofs.Math.Seq.{drop-append_seam}
use native.Mathlib.Nat.{mul_assoc, mul-le-mul}
use Rattle.pearl_value.specs.declared.cell.Cell.{Cell}
use Rattle.pearl_value.specs.declared.cell.Cell.TheVariants.{Fixed, Bits, Chars, Clock, Span, Ref}
use Rattle.pearl_program.specs.declared.expression.Bound.{Bound}
use Rattle.pearl_program.specs.Typing.{elements}
use Rattle.pearl_meaning.specs.Variables as meaning
use Rattle.pearl_meaning.specs.Variables.{elements_before}
use Rattle.pearl_instructions.specs.Operators.{number_of, numbers_of, offset_of}
use Rattle.pearl_gen_expr.specs.ExprCode.{bounds_of}
use Rattle.pearl_gen_expr.specs.Contexts.{pushed}

-- WHAT WAS PUSHED

pub pushed_is : (xs operands : List Cell) → pushed xs operands ≡ reverse xs ++ operands
pushed_is [] operands = refl
pushed_is (x ∷ xs) operands = pushed_is xs (x ∷ operands) ∙ (sym (append_assoc (reverse xs) (x ∷ []) operands) ∙ ap (λ all. all ++ operands) (sym (reverse_onto xs x [])))

pub taken_is : (xs operands : List Cell) (n : ℕ) → length xs ≡ n → reverse (take n (pushed xs operands)) ≡ xs
taken_is xs operands n long =
    ap (λ all. reverse (take n all)) (pushed_is xs operands) ∙ (ap reverse (take_at (reverse xs) operands n (length-reverse xs ∙ long)) ∙ reverse-reverse xs)

pub dropped_is : (xs operands : List Cell) (n : ℕ) → length xs ≡ n → drop n (pushed xs operands) ≡ operands
dropped_is xs operands n long =
    ap (drop n) (pushed_is xs operands) ∙ (ap (λ n. drop n (reverse xs ++ operands)) (sym (length-reverse xs ∙ long)) ∙ drop-append_seam (reverse xs) operands)

-- OFFSETS

above : (a b : ℤ) → int_le a b ≡ true → (d : ℕ) × (b -ℤ a ≡ pos d)
above a b e = by (b -ℤ a) refl
  where
    by : (z : ℤ) → b -ℤ a ≡ z → (d : ℕ) × (b -ℤ a ≡ pos d)
    by (pos d) h = (d, h)
    by (negsuc d) h = absurd (grind (arith, ints, e, h))

and_true : (a b : Bool) → a && b ≡ true → (a ≡ true) × (b ≡ true)
and_true true b e = (refl, e)
and_true false b e = cc

-- so many elements come before, where so many rows of all that these bounds have come before
abbrev ahead : ℕ → List Bound → Option ℕ → Option ℤ
ahead m bounds before = option_map (λ n. pos (m * elements bounds + n)) before

number_is : (x : Cell) (n : ℤ) → number_of x ≡ Some n → meaning.number_of x ≡ n
number_is (Fixed len value) n e = same_Some value n e
number_is (Bits len value) n e = cc
number_is (Chars text) n e = cc
number_is (Clock time) n e = cc
number_is (Span time) n e = cc
number_is (Ref kind place) n e = cc

numbered : (x : Cell) (rest : Option (List ℤ)) (ns : List ℤ) → option_and_then (λ n. option_map (λ ns. n ∷ ns) rest) (number_of x) ≡ Some ns →
    (n : ℤ) × (more : List ℤ) × (number_of x ≡ Some n) × (rest ≡ Some more) × (n ∷ more ≡ ns)
numbered (Fixed len value) None ns e = cc
numbered (Fixed len value) (Some more) ns e = (value, more, refl, refl, same_Some (value ∷ more) ns e)
numbered (Bits len value) rest ns e = cc
numbered (Chars text) rest ns e = cc
numbered (Clock time) rest ns e = cc
numbered (Span time) rest ns e = cc
numbered (Ref kind place) rest ns e = cc

row_ahead : (m d w : ℕ) (bounds : List Bound) (before : Option ℕ) →
    ahead (m * suc w + d) bounds before ≡ option_map (λ n. pos (m * (suc w * elements bounds) + n)) (option_map (λ before. d * elements bounds + before) before)
row_ahead m d w bounds None = refl
row_ahead m d w bounds (Some n) =
    let product : m * suc w * elements bounds ≡ m * (suc w * elements bounds) = mul_assoc m (suc w) (elements bounds) in
    ap (λ n. Some (pos n)) (grind (arith, product))

-- one bound, where the number is in its range or isn't
step_is : (t : Bool) (m : ℕ) (b : Bound) (n : ℤ) (bounds : List Bound) (xs : List Cell) (more : List ℤ) → (int_le b.lower n && int_le n b.upper) ≡ t →
    ((m : ℕ) → offset_of (pos m) (map bounds_of bounds) more ≡ ahead m bounds (elements_before bounds xs)) →
    (if t then offset_of (pos m *ℤ (b.upper -ℤ b.lower +ℤ pos 1) +ℤ (n -ℤ b.lower)) (map bounds_of bounds) more else None)
    ≡ ahead m (b ∷ bounds) (if t then option_map (λ before. unsigned_abs (n -ℤ b.lower) * elements bounds + before) (elements_before bounds xs) else None)
step_is false m b n bounds xs more e on = refl
step_is true m b n bounds xs more e on =
    let both = and_true (int_le b.lower n) (int_le n b.upper) e in
    let far = above b.lower n both.0 in
    let left = above n b.upper both.1 in
    let d = far.0 in
    let w = d + left.0 in
    let wide : b.upper -ℤ b.lower ≡ pos w = grind (arith, ints, far.1, left.1) in
    let size : b.upper -ℤ b.lower +ℤ pos 1 ≡ pos (suc w) = ap (λ z. z +ℤ pos 1) wide ∙ grind (arith, ints) in
    let next : pos m *ℤ (b.upper -ℤ b.lower +ℤ pos 1) +ℤ (n -ℤ b.lower) ≡ pos (m * suc w + d) =
    ap (λ z. pos m *ℤ z +ℤ (n -ℤ b.lower)) size ∙ (ap (λ z. pos m *ℤ pos (suc w) +ℤ z) far.1 ∙ grind (arith, ints)) in
    let extent : suc w ≡ unsigned_abs (b.upper -ℤ b.lower) + 1 = sym (ap (λ z. unsigned_abs z + 1) wide ∙ omega arith) in
    ap (λ z. offset_of z (map bounds_of bounds) more) next ∙ (on (m * suc w + d) ∙ (row_ahead m d w bounds (elements_before bounds xs)
    ∙ (ap (λ size. option_map (λ n. pos (m * (size * elements bounds) + n)) (option_map (λ before. d * elements bounds + before) (elements_before bounds xs))) extent
    ∙ ap (λ z. ahead m (b ∷ bounds) (option_map (λ before. unsigned_abs z * elements bounds + before) (elements_before bounds xs))) (sym far.1))))

-- as many numbers as bounds
pub offset_is : (m : ℕ) (bounds : List Bound) (xs : List Cell) (ns : List ℤ) → length xs ≡ length bounds → numbers_of xs ≡ Some ns →
    offset_of (pos m) (map bounds_of bounds) ns ≡ ahead m bounds (elements_before bounds xs)
offset_is m [] xs ns long e = ap (λ n. Some (pos n)) (omega arith)
offset_is m (b ∷ bounds) [] ns long e = absurd (omega (arith, long))
offset_is m (b ∷ bounds) (x ∷ xs) ns long e =
    let parts = numbered x (numbers_of xs) ns e in
    let n = parts.0 in let more = parts.1 in
    subst (λ ns. offset_of (pos m) (map bounds_of (b ∷ bounds)) ns ≡ ahead m (b ∷ bounds) (elements_before (b ∷ bounds) (x ∷ xs))) parts.4
    (step_is (int_le b.lower n && int_le n b.upper) m b n bounds xs more refl (λ m. offset_is m bounds xs more (omega (arith, long)) parts.3)
    ∙ ap (λ n. ahead m (b ∷ bounds) (if int_le b.lower n && int_le n b.upper
    then option_map (λ before. unsigned_abs (n -ℤ b.lower) * elements bounds + before) (elements_before bounds xs) else None)) (sym (number_is x n parts.2)))

-- THE NUMBER OF ELEMENTS

-- the element is one of those
abbrev IsBefore : ℕ → Option ℕ → Type 0
IsBefore all None = Unit {0}
IsBefore all (Some before) = before < all

row_before : (d w all : ℕ) (before : Option ℕ) → d ≤ w → IsBefore all before → IsBefore (suc w * all) (option_map (λ before. d * all + before) before)
row_before d w all None few less = tt
row_before d w all (Some before) few less =
    let more : suc d * all ≤ suc w * all = mul-le-mul {n₁ = suc d} {m₁ = all} {n₂ = suc w} {m₂ = all} (omega (arith, few)) (omega arith) in
    grind (arith, more, less)

test_before : (t : Bool) (b : Bound) (n : ℤ) (all : ℕ) (before : Option ℕ) → (int_le b.lower n && int_le n b.upper) ≡ t → IsBefore all before →
    IsBefore ((unsigned_abs (b.upper -ℤ b.lower) + 1) * all) (if t then option_map (λ before. unsigned_abs (n -ℤ b.lower) * all + before) before else None)
test_before false b n all before e less = tt
test_before true b n all before e less =
    let both = and_true (int_le b.lower n) (int_le n b.upper) e in
    let far = above b.lower n both.0 in
    let left = above n b.upper both.1 in
    let d = far.0 in
    let w = d + left.0 in
    let wide : b.upper -ℤ b.lower ≡ pos w = grind (arith, ints, far.1, left.1) in
    let extent : suc w ≡ unsigned_abs (b.upper -ℤ b.lower) + 1 = sym (ap (λ z. unsigned_abs z + 1) wide ∙ omega arith) in
    subst (λ size. IsBefore (size * all) (option_map (λ before. unsigned_abs (n -ℤ b.lower) * all + before) before)) extent
    (subst (λ z. IsBefore (suc w * all) (option_map (λ before. unsigned_abs z * all + before) before)) (sym far.1) (row_before d w all before (omega arith) less))

before_all : (bounds : List Bound) (xs : List Cell) → IsBefore (elements bounds) (elements_before bounds xs)
before_all [] xs = omega arith
before_all (b ∷ bounds) [] = tt
before_all (b ∷ bounds) (x ∷ xs) =
    test_before (int_le b.lower (meaning.number_of x) && int_le (meaning.number_of x) b.upper) b (meaning.number_of x) (elements bounds) (elements_before bounds xs) refl
    (before_all bounds xs)

pub is_before : (bounds : List Bound) (xs : List Cell) (before : ℕ) → elements_before bounds xs ≡ Some before → before < elements bounds
is_before bounds xs before e = subst (IsBefore (elements bounds)) e (before_all bounds xs)
