-- The first values of an object's slots.
use Rattle.std.proofs.Common.{◌≡◌, ℕ, zero, suc, ◌+◌, ◌-◌, ◌<◌, ◌≤◌, List, [], ◌∷◌, ◌++◌, Bool, true, false, Some, length, slice_get, refl, sym, ap, ◌∙◌, arith, ltb-true, ltb-false}
use Rattle.std.specs.Prelude.{nat_lt, if◌then◌else◌, replicate}
use Rattle.std.specs.List.{AllByRecursion, flat_map, sum_by}
use Rattle.std.proofs.lemmas.List.{length-append, length-replicate}
use Rattle.std.proofs.lemmas.List.Sums.{sum_by-cons}
use Rattle.pearl_value.specs.declared.cell.Cell.{Cell}
use Rattle.pearl_value.specs.declared.kind.Kind.{Kind}
use Rattle.pearl_value.specs.Blanks.{blank_of, last_or}
use Rattle.pearl_value.specs.Cells.{kind_of}
use Rattle.pearl_value.specs.WellFormed.{IsValue, IsValueOf}
use Rattle.pearl_value.proofs.Offered.{blank_gives}
use Rattle.pearl_rules.specs.Core.{cell_or_zero, value_at}
use Rattle.pearl_instructions.specs.declared.object.Leaf.{Leaf}
use Rattle.pearl_instructions.specs.Lawful.{IsLeaf}
use Rattle.pearl_instructions.specs.Objects.{slot_kind}
use Rattle.pearl_instructions.specs.Setups.{first_cells}

pub all_joined : {A : Type 0} (P : A → Type 0) (xs ys : List A) → AllByRecursion P xs → AllByRecursion P ys → AllByRecursion P (xs ++ ys)
all_joined P [] ys all more = more
all_joined P (x ∷ xs) ys all more = (all.0, all_joined P xs ys all.1 more)

all_same : {A : Type 0} (P : A → Type 0) (n : ℕ) (x : A) → P x → AllByRecursion P (replicate n x)
all_same P zero x is = tt
all_same P (suc n) x is = (is, all_same P n x is)

all_given : {A : Type 0} (P : A → Type 0) (xs : List A) (n : ℕ) → AllByRecursion P xs → n < length xs → (x : A) × (slice_get xs n ≡ Some x) × P x
all_given P [] n all less = absurd (omega (arith, less))
all_given P (x ∷ xs) zero all less = (x, refl, all.0)
all_given P (x ∷ xs) (suc n) all less = all_given P xs n all.1 (omega (arith, less))

in_front : {A : Type 0} (xs ys : List A) (n : ℕ) → n < length xs → slice_get (xs ++ ys) n ≡ slice_get xs n
in_front [] ys n less = absurd (omega (arith, less))
in_front (x ∷ xs) ys zero less = refl
in_front (x ∷ xs) ys (suc n) less = in_front xs ys n (omega (arith, less))

behind : {A : Type 0} (xs ys : List A) (n m : ℕ) → n ≡ length xs + m → slice_get (xs ++ ys) n ≡ slice_get ys m
behind [] ys n m e = ap (slice_get ys) (omega (arith, e))
behind (x ∷ xs) ys zero m e = absurd (omega (arith, e))
behind (x ∷ xs) ys (suc n) m e = behind xs ys n m (omega (arith, e))

last_of : (of : Kind) (x : Cell) (xs : List Cell) → IsValueOf of x → AllByRecursion (IsValueOf of) xs → IsValueOf of (last_or x xs)
last_of of x [] is all = is
last_of of x (y ∷ rest) is all = last_of of y rest all.0 all.1

-- a leaf has as many first values as slots, all of its kind
pub first_are : (leaf : Leaf) → IsLeaf leaf → AllByRecursion (IsValueOf leaf.kind) (first_cells leaf)
first_are leaf is = all_joined (IsValueOf leaf.kind) leaf.constants _ is.constants (all_same (IsValueOf leaf.kind) _ _ (last_of leaf.kind _ leaf.constants (blank_gives leaf.kind is.kind) is.constants))

pub first_long : (leaf : Leaf) → IsLeaf leaf → length (first_cells leaf) ≡ leaf.slots
first_long leaf is =
    let rest = leaf.slots - length leaf.constants in
    let last = last_or (blank_of leaf.kind) leaf.constants in
    let both : length (leaf.constants ++ replicate rest last) ≡ length leaf.constants + length (replicate rest last) = length-append leaf.constants (replicate rest last) in
    let left : length (replicate rest last) ≡ rest = length-replicate rest last in
    omega (arith, both, left, is.few)

pub all_long : (leaves : List Leaf) → AllByRecursion IsLeaf leaves → length (flat_map first_cells leaves) ≡ sum_by (λ leaf. leaf.slots) leaves
all_long [] all = refl
all_long (leaf ∷ leaves) all =
    let here = first_long leaf all.0 in
    let more = all_long leaves all.1 in
    let both : length (first_cells leaf ++ flat_map first_cells leaves) ≡ length (first_cells leaf) + length (flat_map first_cells leaves) = length-append (first_cells leaf) (flat_map first_cells leaves) in
    let sum = sum_by-cons (λ (l : Leaf). l.slots) leaf leaves in
    omega (arith, here, more, both, sum)

values : (of : Kind) (xs : List Cell) → AllByRecursion (IsValueOf of) xs → AllByRecursion IsValue xs
values of [] all = tt
values of (x ∷ xs) all = (all.0.is_value, values of xs all.1)

pub all_values : (leaves : List Leaf) → AllByRecursion IsLeaf leaves → AllByRecursion IsValue (flat_map first_cells leaves)
all_values [] all = tt
all_values (leaf ∷ leaves) all = all_joined IsValue (first_cells leaf) _ (values leaf.kind (first_cells leaf) (first_are leaf all.0)) (all_values leaves all.1)

-- a slot's first value has its leaf's kind
pub slot_known : (leaves : List Leaf) (slot : ℕ) → AllByRecursion IsLeaf leaves → slot < sum_by (λ leaf. leaf.slots) leaves →
    slot_kind leaves slot ≡ Some (kind_of (value_at (flat_map first_cells leaves) slot))
slot_known [] slot all less = absurd (omega (arith, less))
slot_known (leaf ∷ leaves) slot all less = by (nat_lt slot leaf.slots) refl (slot_known leaves (slot - leaf.slots) all.1)
  where
    long : length (first_cells leaf) ≡ leaf.slots
    long = first_long leaf all.0

    by : (b : Bool) → nat_lt slot leaf.slots ≡ b →
        (slot - leaf.slots < sum_by (λ leaf. leaf.slots) leaves → slot_kind leaves (slot - leaf.slots) ≡ Some (kind_of (value_at (flat_map first_cells leaves) (slot - leaf.slots)))) →
        (if b then Some leaf.kind else slot_kind leaves (slot - leaf.slots)) ≡ Some (kind_of (value_at (first_cells leaf ++ flat_map first_cells leaves) slot))
    by true h more =
        let within : slot < length (first_cells leaf) = rw long (ltb-true slot leaf.slots h) in
        let x = all_given (IsValueOf leaf.kind) (first_cells leaf) slot (first_are leaf all.0) within in
        let here : slice_get (first_cells leaf ++ flat_map first_cells leaves) slot ≡ Some x.0 = in_front (first_cells leaf) (flat_map first_cells leaves) slot within ∙ x.1 in
        ap Some (sym x.2.same_kind) ∙ ap (λ v. Some (kind_of (cell_or_zero v))) (sym here)
    by false h more =
        let past : leaf.slots ≤ slot = ltb-false slot leaf.slots h in
        let sum = sum_by-cons (λ (l : Leaf). l.slots) leaf leaves in
        let left : slot - leaf.slots < sum_by (λ leaf. leaf.slots) leaves = omega (arith, past, sum, less) in
        let here : slice_get (first_cells leaf ++ flat_map first_cells leaves) slot ≡ slice_get (flat_map first_cells leaves) (slot - leaf.slots) =
        behind (first_cells leaf) (flat_map first_cells leaves) slot (slot - leaf.slots) (omega (arith, past, long)) in
        more left ∙ ap (λ v. Some (kind_of (cell_or_zero v))) (sym here)
