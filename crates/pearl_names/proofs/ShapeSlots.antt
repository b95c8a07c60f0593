-- The slots of shapes: those of their leaves, their kinds, and those of the last fields.
use Rattle.std.proofs.Common.{◌≡◌, ℕ, zero, suc, ◌+◌, ◌*◌, ◌-◌, ◌<◌, ◌≤◌, ◌^◌, ℤ, unsigned_abs, ◌-ℤ◌, Bool, true, false, ◌&&◌, nat_le, List, [], ◌∷◌, ◌++◌, replicate, length, length-append, slice_get, Some, is_some, refl, sym, ap, subst, ◌∙◌, true≢false, arith}
use Rattle.std.proofs.lemmas.Nat.{mul-le}
use Rattle.std.proofs.lemmas.Grind.{flat_map-append}
use Rattle.std.proofs.lemmas.List.Folds.{list_all-append}
use Rattle.std.specs.List.{list_all}
use Rattle.pearl_value.specs.declared.kind.Kind.{Kind}
use Rattle.pearl_names.specs.Kinds.{joined_kinds, kinds_among}
use Rattle.pearl_names.specs.Shapes.{Shape, OfKind, OfFields, Fields, NoField, MoreField}
use Rattle.pearl_names.specs.Layout.{leaves_of, leaves_of_fields, elements, leaf_slots, slots_of, is_sound_leaf}
use Rattle.pearl_names.specs.Runs.{shape_slots, field_slots, AreFew, AreFewIn, drop_fields, tails_of}
use Rattle.pearl_names.proofs.Counting.{elements-append}
use Rattle.pearl_names.proofs.KindSets.{kinds-append, kinds-run}

-- the slots of a shape are those of its leaves
mutual
  pub slots_of_shape : (path : List (List ℕ)) (bounds : List (ℤ × ℤ)) (shape : Shape) → slots_of (leaves_of path bounds shape) ≡ shape_slots (elements bounds) shape
  slots_of_shape path bounds (OfKind kind) = nil-right (replicate (elements bounds) kind)
    where
      nil-right : (xs : List Kind) → xs ++ [] ≡ xs
      nil-right [] = refl
      nil-right (x ∷ xs) = ap (λ t. x ∷ t) (nil-right xs)
  slots_of_shape path bounds (OfFields fields) = slots_of_fields path bounds fields

  slots_of_fields : (path : List (List ℕ)) (bounds : List (ℤ × ℤ)) (fields : Fields) → slots_of (leaves_of_fields path bounds fields) ≡ field_slots (elements bounds) fields
  slots_of_fields path bounds NoField = refl
  slots_of_fields path bounds (MoreField name own shape rest) =
      flat_map-append leaf_slots (leaves_of (path ++ name ∷ []) (bounds ++ own) shape) (leaves_of_fields path bounds rest)
      ∙ (λ i. (slots_of_shape (path ++ name ∷ []) (bounds ++ own) shape ∙ ap (λ n. shape_slots n shape) (elements-append bounds own)) i ++ slots_of_fields path bounds rest i)

and_left : (a b : Bool) → (a && b) ≡ true → a ≡ true
and_left true b h = refl
and_left false b h = h

and_right : (a b : Bool) → (a && b) ≡ true → b ≡ true
and_right true b h = h
and_right false b h = absurd (true≢false (sym h))

few_elements : (n : ℕ) → nat_le n 65536 ≡ true → n < 2 ^ 31
few_elements n h = let k : n ≤ 65536 = grind (arith, h) in omega (arith, k)

-- sound leaves have few elements
mutual
  pub few_in_shape : (path : List (List ℕ)) (bounds : List (ℤ × ℤ)) (shape : Shape) → list_all is_sound_leaf (leaves_of path bounds shape) ≡ true → AreFew (elements bounds) shape
  few_in_shape path bounds (OfKind kind) h = few_elements (elements bounds) (and_right (nat_le (length bounds) 3) (nat_le (elements bounds) 65536) (and_left _ true h))
  few_in_shape path bounds (OfFields fields) h = few_in_fields path bounds fields h

  few_in_fields : (path : List (List ℕ)) (bounds : List (ℤ × ℤ)) (fields : Fields) → list_all is_sound_leaf (leaves_of_fields path bounds fields) ≡ true → AreFewIn (elements bounds) fields
  few_in_fields path bounds NoField h = tt
  few_in_fields path bounds (MoreField name own shape rest) h =
      let both = sym (list_all-append is_sound_leaf (leaves_of (path ++ name ∷ []) (bounds ++ own) shape) (leaves_of_fields path bounds rest)) ∙ h in
      let one = few_in_shape (path ++ name ∷ []) (bounds ++ own) shape (and_left (list_all is_sound_leaf (leaves_of (path ++ name ∷ []) (bounds ++ own) shape)) (list_all is_sound_leaf (leaves_of_fields path bounds rest)) both) in
      (subst (λ n. AreFew n shape) (elements-append bounds own) one, few_in_fields path bounds rest (and_right (list_all is_sound_leaf (leaves_of (path ++ name ∷ []) (bounds ++ own) shape)) (list_all is_sound_leaf (leaves_of_fields path bounds rest)) both))

pub elements_some : (bounds : List (ℤ × ℤ)) → 1 ≤ elements bounds
elements_some [] = omega arith
elements_some (pair ∷ rest) = mul-le 1 1 (unsigned_abs (pair.1 -ℤ pair.0) + 1) (elements rest) (omega arith) (elements_some rest)

pub some_within : (n : ℕ) (bounds : List (ℤ × ℤ)) → 1 ≤ n → 1 ≤ n * elements bounds
some_within n bounds h = mul-le 1 1 n (elements bounds) h (elements_some bounds)

-- how many elements there are doesn't change which kinds are among them
mutual
  pub same_kinds : (n m : ℕ) (shape : Shape) → 1 ≤ n → 1 ≤ m → kinds_among (shape_slots n shape) ≡ kinds_among (shape_slots m shape)
  same_kinds n m (OfKind kind) h k = kinds-run n kind h ∙ sym (kinds-run m kind k)
  same_kinds n m (OfFields fields) h k = same_kinds_in n m fields h k

  pub same_kinds_in : (n m : ℕ) (fields : Fields) → 1 ≤ n → 1 ≤ m → kinds_among (field_slots n fields) ≡ kinds_among (field_slots m fields)
  same_kinds_in n m NoField h k = refl
  same_kinds_in n m (MoreField name bounds shape rest) h k =
      kinds-append (shape_slots (n * elements bounds) shape) (field_slots n rest)
      ∙ (λ i. joined_kinds (same_kinds (n * elements bounds) (m * elements bounds) shape (some_within n bounds h) (some_within m bounds k) i) (same_kinds_in n m rest h k i))
      ∙ sym (kinds-append (shape_slots (m * elements bounds) shape) (field_slots m rest))

-- a shape with no leaves has no slots
append_empty : {X : Type 0} (xs ys : List X) → length (xs ++ ys) ≡ 0 → (length xs ≡ 0) × (length ys ≡ 0)
append_empty xs ys h = let e : _ = length-append xs ys in (omega (arith, e, h), omega (arith, e, h))

mutual
  pub no_slots : (path : List (List ℕ)) (bounds : List (ℤ × ℤ)) (n : ℕ) (shape : Shape) → length (leaves_of path bounds shape) ≡ 0 → shape_slots n shape ≡ []
  no_slots path bounds n (OfKind kind) h = absurd (omega (arith, h))
  no_slots path bounds n (OfFields fields) h = no_slots_in path bounds n fields h

  pub no_slots_in : (path : List (List ℕ)) (bounds : List (ℤ × ℤ)) (n : ℕ) (fields : Fields) → length (leaves_of_fields path bounds fields) ≡ 0 → field_slots n fields ≡ []
  no_slots_in path bounds n NoField h = refl
  no_slots_in path bounds n (MoreField name own shape rest) h =
      let both = append_empty (leaves_of (path ++ name ∷ []) (bounds ++ own) shape) (leaves_of_fields path bounds rest) h in
      λ i. no_slots (path ++ name ∷ []) (bounds ++ own) (n * elements own) shape both.0 i ++ no_slots_in path bounds n rest both.1 i

-- the kinds among the last fields
abbrev pub field_count : Fields → ℕ
field_count NoField = 0
field_count (MoreField name bounds shape rest) = suc (field_count rest)

length-tails : (fields : Fields) → length (tails_of fields) ≡ field_count fields + 1
length-tails NoField = refl
length-tails (MoreField name bounds shape rest) = let e : _ = length-append (tails_of rest) (kinds_among (field_slots 1 (MoreField name bounds shape rest)) ∷ []) in let h : _ = length-tails rest in omega (arith, e, h)

get-more : {X : Type 0} (xs ys : List X) (i : ℕ) (x : X) → slice_get xs i ≡ Some x → slice_get (xs ++ ys) i ≡ Some x
get-more [] ys i x h = absurd (true≢false (sym (ap is_some h)))
get-more (y ∷ xs) ys zero x h = h
get-more (y ∷ xs) ys (suc i) x h = get-more xs ys i x h

get-last : {X : Type 0} (xs : List X) (x : X) → slice_get (xs ++ x ∷ []) (length xs) ≡ Some x
get-last [] x = refl
get-last (y ∷ xs) x = get-last xs x

pub tail_whole : (fields : Fields) → slice_get (tails_of fields) (field_count fields) ≡ Some (kinds_among (field_slots 1 fields))
tail_whole NoField = refl
tail_whole (MoreField name bounds shape rest) =
    let e : suc (field_count rest) ≡ length (tails_of rest) = let h : _ = length-tails rest in omega (arith, h) in
    ap (slice_get (tails_of (MoreField name bounds shape rest))) e ∙ get-last (tails_of rest) (kinds_among (field_slots 1 (MoreField name bounds shape rest)))

pub tail_at : (fields : Fields) (next : ℕ) → slice_get (tails_of fields) (field_count fields - next) ≡ Some (kinds_among (field_slots 1 (drop_fields next fields)))
tail_at fields zero = let e : field_count fields - 0 ≡ field_count fields = omega arith in ap (slice_get (tails_of fields)) e ∙ tail_whole fields
tail_at NoField (suc next) = let e : 0 - suc next ≡ 0 = omega arith in ap (slice_get (tails_of NoField)) e
tail_at (MoreField name bounds shape rest) (suc next) =
    let e : suc (field_count rest) - suc next ≡ field_count rest - next = omega arith in
    ap (slice_get (tails_of (MoreField name bounds shape rest))) e
    ∙ get-more (tails_of rest) (kinds_among (field_slots 1 (MoreField name bounds shape rest)) ∷ []) (field_count rest - next) _ (tail_at rest next)
