-- How counts of leaves are made of those of their parts.
use Rattle.std.proofs.Common.{◌≡◌, ℕ, zero, suc, ◌+◌, ◌*◌, ◌<◌, ◌≤◌, ◌^◌, max, ℤ, unsigned_abs, ◌-ℤ◌, Bool, true, false, ◌&&◌, ◌||◌, nat_le, nat_lt, List, [], ◌∷◌, ◌++◌, map, length, length-append, refl, sym, ap, ◌∙◌, append_assoc, append-nil, arith, inl, inr, mul-add, ⊎_elim, ◌⊎◌}
use Rattle.std.proofs.Math.Nat.{mul-zero, mul_comm, mul_assoc, mul-le-mul_left}
use Rattle.std.proofs.lemmas.Nat.{mul-le}
use Rattle.std.proofs.lemmas.Bool.{cases_lt, lt-leb, le-leb}
use Rattle.std.proofs.lemmas.Bool.Decides.{nat_tests}
use Rattle.std.proofs.lemmas.List.{map-append, length-map, length-replicate}
use Rattle.std.proofs.lemmas.List.Sums.{sum_by-append}
use Rattle.std.proofs.lemmas.Grind.{flat_map-append}
use Rattle.std.specs.List.{list_all, list_any}
use Rattle.pearl_names.specs.Shapes.{Shape, OfKind, OfFields, Fields, NoField, MoreField}
use Rattle.pearl_names.specs.Layout.{Leaf, leaves_of, leaves_of_fields, elements, leaf_slots, slots_of, is_sound_leaf}
use Rattle.pearl_names.specs.declared.types.Counts.{Counts}
use Rattle.pearl_names.specs.Counts.{cut, joined, within, behind_name, most, dimensions_of, elements_of, path_bytes, bytes_behind, counts, counts_of, has_sound_leaves}

pub cut_add : (a b : ℕ) → cut (a + b) ≡ cut (cut a + cut b)
cut_add a b = omega arith

cut_second : (a b : ℕ) → cut (a + b) ≡ cut (a + cut b)
cut_second a b = omega arith

cut_again : (a : ℕ) → cut (0 + cut a) ≡ cut a
cut_again a = omega arith

cut_max : (a b : ℕ) → cut (max a b) ≡ max (cut a) (cut b)
cut_max a b = omega arith

-- a product with a factor at or above the limit
cut_large : (a b : ℕ) → 2 ^ 31 ≤ a → cut (a * b) ≡ cut (cut a * cut b)
cut_large a zero h = ap cut (mul-zero a) ∙ sym (ap cut (mul-zero (cut a)))
cut_large a (suc b) h =
    let one : 2 ^ 31 * 1 ≤ a * suc b = mul-le (2 ^ 31) 1 a (suc b) h (omega arith) in
    let two : 2 ^ 31 * 1 ≤ cut a * cut (suc b) = mul-le (2 ^ 31) 1 (cut a) (cut (suc b)) (omega (arith, h)) (omega arith) in
    let left : cut (a * suc b) ≡ 2 ^ 31 = omega (arith, one) in
    let right : cut (cut a * cut (suc b)) ≡ 2 ^ 31 = omega (arith, two) in
    left ∙ sym right

pub cut_mul : (a b : ℕ) → cut (a * b) ≡ cut (cut a * cut b)
cut_mul a b = ⊎_elim (λ below. ⊎_elim (λ low. small below low) (λ high. swapped high) (cases_lt b (2 ^ 31))) (λ high. cut_large a b high) (cases_lt a (2 ^ 31))
  where
    small : a < 2 ^ 31 → b < 2 ^ 31 → cut (a * b) ≡ cut (cut a * cut b)
    small h k =
        let one : cut a ≡ a = omega (arith, h) in
        let two : cut b ≡ b = omega (arith, k) in
        sym (λ i. cut (one i * two i))

    swapped : 2 ^ 31 ≤ b → cut (a * b) ≡ cut (cut a * cut b)
    swapped h = ap cut (mul_comm a b) ∙ cut_large b a h ∙ ap cut (mul_comm (cut b) (cut a))

pub behind : List (List ℕ) → List (ℤ × ℤ) → Leaf → Leaf
behind path bounds leaf = record { path = path ++ leaf.path; bounds = bounds ++ leaf.bounds; kind = leaf.kind }

behind_behind : (p q : List (List ℕ)) (b c : List (ℤ × ℤ)) (leaves : List Leaf) →
    map (behind p b) (map (behind q c) leaves) ≡ map (behind (p ++ q) (b ++ c)) leaves
unfolding behind
behind_behind p q b c [] = refl
behind_behind p q b c (leaf ∷ leaves) =
    let first : behind p b (behind q c leaf) ≡ behind (p ++ q) (b ++ c) leaf =
    (λ i. record { path = sym (append_assoc p q leaf.path) i; bounds = sym (append_assoc b c leaf.bounds) i; kind = leaf.kind }) in
    λ i. first i ∷ behind_behind p q b c leaves i

-- the leaves of a shape are those that it has by itself, behind the path and within the bounds
mutual
  unfolding behind

  pub leaves_behind : (path : List (List ℕ)) (bounds : List (ℤ × ℤ)) (shape : Shape) →
      leaves_of path bounds shape ≡ map (behind path bounds) (leaves_of [] [] shape)
  leaves_behind path bounds (OfKind kind) =
      λ i. record { path = sym (append-nil path) i; bounds = sym (append-nil bounds) i; kind = kind } ∷ []
  leaves_behind path bounds (OfFields fields) = leaves_behind_in path bounds fields

  leaves_behind_in : (path : List (List ℕ)) (bounds : List (ℤ × ℤ)) (fields : Fields) →
      leaves_of_fields path bounds fields ≡ map (behind path bounds) (leaves_of_fields [] [] fields)
  leaves_behind_in path bounds NoField = refl
  leaves_behind_in path bounds (MoreField name own shape rest) =
      let one : leaves_of (path ++ name ∷ []) (bounds ++ own) shape ≡ map (behind path bounds) (leaves_of (name ∷ []) own shape) =
      leaves_behind (path ++ name ∷ []) (bounds ++ own) shape
      ∙ sym (behind_behind path (name ∷ []) bounds own (leaves_of [] [] shape))
      ∙ ap (map (behind path bounds)) (sym (leaves_behind (name ∷ []) own shape)) in
      (λ i. one i ++ leaves_behind_in path bounds rest i)
      ∙ sym (map-append (behind path bounds) (leaves_of (name ∷ []) own shape) (leaves_of_fields [] [] rest))

pub elements-append : (b c : List (ℤ × ℤ)) → elements (b ++ c) ≡ elements b * elements c
elements-append [] c = grind arith
elements-append (pair ∷ b) c = ap (λ n. (unsigned_abs (pair.1 -ℤ pair.0) + 1) * n) (elements-append b c) ∙ sym (mul_assoc (unsigned_abs (pair.1 -ℤ pair.0) + 1) (elements b) (elements c))

most-append : (f : Leaf → ℕ) (xs ys : List Leaf) → most f (xs ++ ys) ≡ max (most f xs) (most f ys)
most-append f [] ys = omega arith
most-append f (x ∷ xs) ys = let h : _ = most-append f xs ys in omega (arith, h)

pub counts-append : (xs ys : List Leaf) → counts (xs ++ ys) ≡ joined (counts xs) (counts ys)
unfolding counts
counts-append xs ys =
    let slots : length (slots_of (xs ++ ys)) ≡ length (slots_of xs) + length (slots_of ys) =
    ap length (flat_map-append leaf_slots xs ys) ∙ length-append (slots_of xs) (slots_of ys) in
    λ i. record {
      leaves = (ap cut (length-append xs ys) ∙ cut_add (length xs) (length ys)) i;
      slots = (ap cut slots ∙ cut_add (length (slots_of xs)) (length (slots_of ys))) i;
      dimensions = (ap cut (most-append dimensions_of xs ys) ∙ cut_max (most dimensions_of xs) (most dimensions_of ys)) i;
      greatest = (ap cut (most-append elements_of xs ys) ∙ cut_max (most elements_of xs) (most elements_of ys)) i;
      longest = (ap cut (most-append bytes_behind xs ys) ∙ cut_max (most bytes_behind xs) (most bytes_behind ys)) i;
    }

pub slots-behind : (path : List (List ℕ)) (bounds : List (ℤ × ℤ)) (xs : List Leaf) →
    length (slots_of (map (behind path bounds) xs)) ≡ elements bounds * length (slots_of xs)
unfolding behind
slots-behind path bounds [] = sym (mul-zero (elements bounds))
slots-behind path bounds (x ∷ xs) =
    length-append (leaf_slots (behind path bounds x)) (slots_of (map (behind path bounds) xs))
    ∙ (λ i. (length-replicate (elements (bounds ++ x.bounds)) x.kind ∙ elements-append bounds x.bounds) i + slots-behind path bounds xs i)
    ∙ sym (mul-add (elements bounds) (elements x.bounds) (length (slots_of xs)))
    ∙ ap (λ n. elements bounds * n) (sym (length-append (leaf_slots x) (slots_of xs) ∙ ap (λ n. n + length (slots_of xs)) (length-replicate (elements x.bounds) x.kind)))

-- of at least one leaf
dimensions-behind : (path : List (List ℕ)) (bounds : List (ℤ × ℤ)) (x : Leaf) (xs : List Leaf) →
    most dimensions_of (map (behind path bounds) (x ∷ xs)) ≡ length bounds + most dimensions_of (x ∷ xs)
unfolding behind
dimensions-behind path bounds x [] = let e : _ = length-append bounds x.bounds in omega (arith, e)
dimensions-behind path bounds x (y ∷ ys) =
    let e : _ = length-append bounds x.bounds in
    let h : _ = dimensions-behind path bounds y ys in omega (arith, e, h)

mul-max : (e a b : ℕ) → e * max a b ≡ max (e * a) (e * b)
mul-max e a b = ⊎_elim (λ h. below h) (λ h. above h) (cases_lt a b)
  where
    below : a < b → e * max a b ≡ max (e * a) (e * b)
    below h =
        let one : max a b ≡ b = omega (arith, h) in
        let two : e * a ≤ e * b = mul-le-mul_left e (omega (arith, h)) in
        let three : max (e * a) (e * b) ≡ e * b = omega (arith, two) in
        ap (λ n. e * n) one ∙ sym three

    above : b ≤ a → e * max a b ≡ max (e * a) (e * b)
    above h =
        let one : max a b ≡ a = omega (arith, h) in
        let two : e * b ≤ e * a = mul-le-mul_left e h in
        let three : max (e * a) (e * b) ≡ e * a = omega (arith, two) in
        ap (λ n. e * n) one ∙ sym three

elements-behind : (path : List (List ℕ)) (bounds : List (ℤ × ℤ)) (xs : List Leaf) →
    most elements_of (map (behind path bounds) xs) ≡ elements bounds * most elements_of xs
unfolding behind
elements-behind path bounds [] = sym (mul-zero (elements bounds))
elements-behind path bounds (x ∷ xs) =
    (λ i. max (elements-append bounds x.bounds i) (elements-behind path bounds xs i)) ∙ sym (mul-max (elements bounds) (elements x.bounds) (most elements_of xs))

-- of at least one leaf
bytes-behind : (path : List (List ℕ)) (bounds : List (ℤ × ℤ)) (x : Leaf) (xs : List Leaf) →
    most bytes_behind (map (behind path bounds) (x ∷ xs)) ≡ path_bytes path + most bytes_behind (x ∷ xs)
unfolding behind
bytes-behind path bounds x [] = let e : _ = sum_by-append (λ field. 1 + length field) path x.path in omega (arith, e)
bytes-behind path bounds x (y ∷ ys) =
    let e : _ = sum_by-append (λ field. 1 + length field) path x.path in
    let h : _ = bytes-behind path bounds y ys in omega (arith, e, h)

within-some : (dimensions count leaves slots most_dimensions greatest longest : ℕ) → 0 < leaves →
    within dimensions count (record { leaves = leaves; slots = slots; dimensions = most_dimensions; greatest = greatest; longest = longest }) ≡
    record { leaves = leaves; slots = cut (count * slots); dimensions = cut (dimensions + most_dimensions); greatest = cut (count * greatest); longest = longest }
within-some dimensions count zero slots most_dimensions greatest longest h = absurd (omega (arith, h))
within-some dimensions count (suc n) slots most_dimensions greatest longest h = refl

behind-some : (bytes leaves slots dimensions greatest longest : ℕ) → 0 < leaves →
    behind_name bytes (record { leaves = leaves; slots = slots; dimensions = dimensions; greatest = greatest; longest = longest }) ≡
    record { leaves = leaves; slots = slots; dimensions = dimensions; greatest = greatest; longest = cut (bytes + longest) }
behind-some bytes zero slots dimensions greatest longest h = absurd (omega (arith, h))
behind-some bytes (suc n) slots dimensions greatest longest h = refl

-- an array of what has these leaves, and the same behind the names of fields
module _ (bytes dimensions count : ℕ) (x : Leaf) (xs : List Leaf) where
  abbrev array : Counts
  array = record {
    leaves = cut (length (x ∷ xs));
    slots = cut (count * cut (length (slots_of (x ∷ xs))));
    dimensions = cut (dimensions + cut (most dimensions_of (x ∷ xs)));
    greatest = cut (count * cut (most elements_of (x ∷ xs)));
    longest = cut (most bytes_behind (x ∷ xs));
  }

  array_counts : within dimensions count (counts (x ∷ xs)) ≡ array
  unfolding counts
  array_counts =
      within-some dimensions count (cut (length (x ∷ xs))) (cut (length (slots_of (x ∷ xs)))) (cut (most dimensions_of (x ∷ xs)))
      (cut (most elements_of (x ∷ xs))) (cut (most bytes_behind (x ∷ xs))) (omega arith)

  named_counts : behind_name bytes (within dimensions count (counts (x ∷ xs))) ≡ record array { longest = cut (bytes + cut (most bytes_behind (x ∷ xs))) }
  named_counts =
      ap (behind_name bytes) array_counts
      ∙ behind-some bytes array.leaves array.slots array.dimensions array.greatest array.longest (omega arith)

-- an array of what has these leaves, behind the names of fields
pub counts-behind : (path : List (List ℕ)) (bounds : List (ℤ × ℤ)) (xs : List Leaf) →
    counts (map (behind path bounds) xs) ≡ behind_name (path_bytes path) (within (cut (length bounds)) (cut (elements bounds)) (counts xs))
unfolding counts
counts-behind path bounds [] = refl
counts-behind path bounds (x ∷ xs) =
    (λ i. record {
      leaves = ap cut (length-map (x ∷ xs) (behind path bounds)) i;
      slots = (ap cut (slots-behind path bounds (x ∷ xs)) ∙ cut_mul (elements bounds) (length (slots_of (x ∷ xs)))) i;
      dimensions = (ap cut (dimensions-behind path bounds x xs) ∙ cut_add (length bounds) (most dimensions_of (x ∷ xs))) i;
      greatest = (ap cut (elements-behind path bounds (x ∷ xs)) ∙ cut_mul (elements bounds) (most elements_of (x ∷ xs))) i;
      longest = (ap cut (bytes-behind path bounds x xs) ∙ cut_second (path_bytes path) (most bytes_behind (x ∷ xs))) i;
    })
    ∙ sym (named_counts (path_bytes path) (cut (length bounds)) (cut (elements bounds)) x xs)

-- behind no names
behind-nothing : (dimensions count : ℕ) (xs : List Leaf) → behind_name 0 (within dimensions count (counts xs)) ≡ within dimensions count (counts xs)
unfolding counts
behind-nothing dimensions count [] = refl
behind-nothing dimensions count (x ∷ xs) =
    named_counts 0 dimensions count x xs
    ∙ (λ i. record (array 0 dimensions count x xs) { longest = cut_again (most bytes_behind (x ∷ xs)) i })
    ∙ sym (array_counts 0 dimensions count x xs)

-- the counts of the leaves of a field
pub counts_of_field : (name : List ℕ) (bounds : List (ℤ × ℤ)) (shape : Shape) →
    counts (leaves_of (name ∷ []) bounds shape) ≡ behind_name (1 + length name) (within (cut (length bounds)) (cut (elements bounds)) (counts_of shape))
counts_of_field name bounds shape =
    let one : path_bytes (name ∷ []) ≡ 1 + length name = omega arith in
    ap counts (leaves_behind (name ∷ []) bounds shape)
    ∙ counts-behind (name ∷ []) bounds (leaves_of [] [] shape)
    ∙ ap (λ n. behind_name n (within (cut (length bounds)) (cut (elements bounds)) (counts_of shape))) one

-- the counts of the leaves of a variable
pub counts_of_variable : (bounds : List (ℤ × ℤ)) (shape : Shape) →
    counts (leaves_of [] bounds shape) ≡ within (cut (length bounds)) (cut (elements bounds)) (counts_of shape)
counts_of_variable bounds shape =
    ap counts (leaves_behind [] bounds shape)
    ∙ counts-behind [] bounds (leaves_of [] [] shape)
    ∙ behind-nothing (cut (length bounds)) (cut (elements bounds)) (leaves_of [] [] shape)

cut_below : (n limit : ℕ) → limit < 2 ^ 31 → nat_le (cut n) limit ≡ nat_le n limit
cut_below n limit h = by (cases_lt limit n)
  where
    by : (limit < n) ⊎ (n ≤ limit) → nat_le (cut n) limit ≡ nat_le n limit
    by (inl k) = lt-leb (cut n) limit (omega (arith, h, k)) ∙ sym (lt-leb n limit k)
    by (inr k) = le-leb (cut n) limit (omega (arith, k)) ∙ sym (le-leb n limit k)

le_max : (a b limit : ℕ) → nat_le (max a b) limit ≡ (nat_le a limit && nat_le b limit)
le_max a b limit = grind (arith, nat_tests)

-- where all leaves have few dimensions and elements
sound_leaves : (xs : List Leaf) → list_all is_sound_leaf xs ≡ (nat_le (most dimensions_of xs) 3 && nat_le (most elements_of xs) 65536)
sound_leaves [] = refl
sound_leaves (x ∷ xs) =
    ap (λ b. is_sound_leaf x && b) (sound_leaves xs)
    ∙ and_swap (nat_le (length x.bounds) 3) (nat_le (elements x.bounds) 65536) (nat_le (most dimensions_of xs) 3) (nat_le (most elements_of xs) 65536)
    ∙ (λ i. sym (le_max (length x.bounds) (most dimensions_of xs) 3) i && sym (le_max (elements x.bounds) (most elements_of xs) 65536) i)
  where
    and_swap : (a b c d : Bool) → ((a && b) && (c && d)) ≡ ((a && c) && (b && d))
    and_swap true true c d = refl
    and_swap true false true d = refl
    and_swap true false false d = refl
    and_swap false b c d = refl

-- so counts that are cut off still tell it
pub sound_counts : (xs : List Leaf) → has_sound_leaves (counts xs) ≡ list_all is_sound_leaf xs
unfolding counts
sound_counts xs =
    (λ i. cut_below (most dimensions_of xs) 3 (omega arith) i && cut_below (most elements_of xs) 65536 (omega arith) i) ∙ sym (sound_leaves xs)

lt_max : (bytes a b : ℕ) → nat_lt 1024 (bytes + max a b) ≡ (nat_lt 1024 (bytes + a) || nat_lt 1024 (bytes + b))
lt_max bytes a b = grind (arith, nat_tests)

lt_cut : (bytes n : ℕ) → nat_lt 1024 (bytes + cut n) ≡ nat_lt 1024 (bytes + n)
lt_cut bytes n = grind (arith, nat_tests)

long_leaves : (bytes : ℕ) (xs : List Leaf) → bytes ≤ 1024 → list_any (λ leaf. nat_lt 1024 (bytes + bytes_behind leaf)) xs ≡ nat_lt 1024 (bytes + most bytes_behind xs)
long_leaves bytes [] few = grind (arith, nat_tests)
long_leaves bytes (x ∷ xs) few =
    ap (λ b. nat_lt 1024 (bytes + bytes_behind x) || b) (long_leaves bytes xs few) ∙ sym (lt_max bytes (bytes_behind x) (most bytes_behind xs))

-- and they tell whether a leaf has a long name, where the variable's own name has so many bytes
pub long_counts : (bytes : ℕ) (xs : List Leaf) → bytes ≤ 1024 → nat_lt 1024 (bytes + (counts xs).longest) ≡ list_any (λ leaf. nat_lt 1024 (bytes + bytes_behind leaf)) xs
unfolding counts
long_counts bytes xs few = lt_cut bytes (most bytes_behind xs) ∙ sym (long_leaves bytes xs few)
