-- The leaves and cells of a component lie among those of its variable where the component says.
use Rattle.std.specs.Prelude.{◌≡◌, ℕ, ◌+◌, ◌*◌, ℤ, Bool, true, false, List, [], ◌∷◌, ◌++◌, length, if◌then◌else◌, Some}
use Rattle.std.specs.Str.{bytes_eq}
use Rattle.std.proofs.Common.{refl, ap, ◌∙◌, sym, subst, arith}
use Rattle.std.proofs.Math.Nat.{mul-add, mul_assoc}
use Rattle.std.proofs.lemmas.List.{length-append, length-map, length-replicate, append_assoc}
use Rattle.std.proofs.lemmas.List.Sums.{sum_by-append}
use Rattle.std.proofs.lemmas.Option.{none-some}
use Rattle.std.proofs.lemmas.Slice.Eq.{bytes_eq-Decides}
use Rattle.pearl_names.specs.Shapes.{Shape, OfKind, OfFields, Fields, NoField, MoreField}
use Rattle.pearl_names.specs.Layout.{Leaf, leaves_of, leaves_of_fields, elements}
use Rattle.pearl_names.specs.Forms.{Component, component, leaf_count, slot_count}
use Rattle.pearl_names.specs.Runs.{shape_slots, field_slots}
use Rattle.pearl_names.proofs.Offered.{elements-append, leaves_behind, behind, slots_of_shape}
use Rattle.pearl_resolve.specs.Laying.{slots}
use Rattle.pearl_sound.specs.Laws.{LiesIn}
use Rattle.pearl_sound.proofs.Going.{slots_length}
use Rattle.pearl_sound.proofs.SoundParts.{some_one}

-- n times a shape
sums : (n e l r : ℕ) → (n * e) * l + n * r ≡ n * ((1 * e) * l + r)
sums n e l r =
    let one : 1 * e ≡ e = omega arith in
    ap (λ m. m + n * r) (mul_assoc n e l) ∙ sym (mul-add n (e * l) r) ∙ ap (λ k. n * (k * l + r)) (sym one)

mutual
  shape_times : (n : ℕ) (shape : Shape) → length (shape_slots n shape) ≡ n * length (shape_slots 1 shape)
  shape_times n (OfKind kind) = let a = length-replicate n kind in omega (arith, a)
  shape_times n (OfFields fields) = fields_times n fields

  fields_times : (n : ℕ) (fields : Fields) → length (field_slots n fields) ≡ n * length (field_slots 1 fields)
  fields_times n NoField = omega arith
  fields_times n (MoreField name own shape rest) =
      length-append (shape_slots (n * elements own) shape) (field_slots n rest) ∙
      (λ i. shape_times (n * elements own) shape i + fields_times n rest i) ∙
      sums n (elements own) (length (shape_slots 1 shape)) (length (field_slots 1 rest)) ∙
      ap (λ m. n * m) (sym (length-append (shape_slots (1 * elements own) shape) (field_slots 1 rest) ∙
      ap (λ m. m + length (field_slots 1 rest)) (shape_times (1 * elements own) shape)))

leaves_same : (path : List (List ℕ)) (bounds : List (ℤ × ℤ)) (shape : Shape) → length (leaves_of path bounds shape) ≡ leaf_count shape
leaves_same path bounds shape =
    ap length (leaves_behind path bounds shape) ∙ length-map (leaves_of [] [] shape) (behind path bounds)

slots_same : (path : List (List ℕ)) (bounds own : List (ℤ × ℤ)) (shape : Shape) →
    slots (leaves_of path (bounds ++ own) shape) ≡ elements bounds * slot_count own shape
slots_same path bounds own shape =
    sym (slots_length (leaves_of path (bounds ++ own) shape)) ∙ ap length (slots_of_shape path (bounds ++ own) shape) ∙
    shape_times (elements (bounds ++ own)) shape ∙
    ap (λ n. n * length (shape_slots 1 shape)) (elements-append bounds own) ∙
    mul_assoc (elements bounds) (elements own) (length (shape_slots 1 shape)) ∙
    ap (λ n. elements bounds * (elements own * n)) (sym (ap length (slots_of_shape [] [] shape)))

-- the same behind so many leaves and slots
record LiesBehind (path : List (List ℕ)) (bounds : List (ℤ × ℤ)) (leaves slot : ℕ) (fields : Fields) (name : List ℕ) (field : Component) : Type 0 where
  pub before : List Leaf
  pub after : List Leaf
  pub is : leaves_of_fields path bounds fields ≡ before ++ (leaves_of (path ++ name ∷ []) (bounds ++ field.bounds) field.shape ++ after)
  pub leaf : field.leaf ≡ leaves + length before
  pub slots : elements bounds * field.slot ≡ elements bounds * slot + slots before

further : (path : List (List ℕ)) (bounds own : List (ℤ × ℤ)) (leaves slot : ℕ) (name : List ℕ) (shape : Shape) (rest : Fields) (text : List ℕ) (field : Component) →
    LiesBehind path bounds (leaves + leaf_count shape) (slot + slot_count own shape) rest text field →
    LiesBehind path bounds leaves slot (MoreField name own shape rest) text field
further path bounds own leaves slot name shape rest text field lies =
    let first = leaves_of (path ++ name ∷ []) (bounds ++ own) shape in
    let part = leaves_of (path ++ text ∷ []) (bounds ++ field.bounds) field.shape in
    record {
      before = first ++ lies.before;
      after = lies.after;
      is = ap (λ more. first ++ more) lies.is ∙ sym (append_assoc first lies.before (part ++ lies.after));
      leaf = let a = lies.leaf in let b = length-append first lies.before in
          let c = leaves_same (path ++ name ∷ []) (bounds ++ own) shape in omega (arith, a, b, c);
      slots = let a = lies.slots in let b = sum_by-append (λ (leaf : Leaf). elements leaf.bounds) first lies.before in
          let c = slots_same (path ++ name ∷ []) bounds own shape in
          let d = mul-add (elements bounds) slot (slot_count own shape) in omega (arith, a, b, c, d);
    }

lies_behind : (path : List (List ℕ)) (bounds : List (ℤ × ℤ)) (leaves slot : ℕ) (fields : Fields) (text : List ℕ) (field : Component) →
    component leaves slot fields text ≡ Some field → LiesBehind path bounds leaves slot fields text field
lies_behind path bounds leaves slot NoField text field is = absurd (none-some field is)
lies_behind path bounds leaves slot (MoreField name own shape rest) text field is =
    by (bytes_eq text name) refl is (λ found. further path bounds own leaves slot name shape rest text field
    (lies_behind path bounds (leaves + leaf_count shape) (slot + slot_count own shape) rest text field found))
  where
    by : (same : Bool) → bytes_eq text name ≡ same → (if same then Some (record { bounds = own; shape = shape; leaf = leaves; slot = slot }) else
        component (leaves + leaf_count shape) (slot + slot_count own shape) rest text) ≡ Some field →
        (component (leaves + leaf_count shape) (slot + slot_count own shape) rest text ≡ Some field →
        LiesBehind path bounds leaves slot (MoreField name own shape rest) text field) →
        LiesBehind path bounds leaves slot (MoreField name own shape rest) text field
    by true same is more =
        subst (λ sought. LiesBehind path bounds leaves slot (MoreField name own shape rest) sought field)
        (sym ((bytes_eq-Decides text name).0 same))
        (subst (λ found. LiesBehind path bounds leaves slot (MoreField name own shape rest) name found) (some_one is) (record {
          before = [];
          after = leaves_of_fields path bounds rest;
          is = refl;
          leaf = omega arith;
          slots = omega arith;
        }))
    by false same is more = more is

pub components_lie : (path : List (List ℕ)) (bounds : List (ℤ × ℤ)) (fields : Fields) (text : List ℕ) (field : Component) →
    component 0 0 fields text ≡ Some field → LiesIn path bounds fields text field
components_lie path bounds fields text field is =
    let lies = lies_behind path bounds 0 0 fields text field is in
    record {
      before = lies.before;
      behind = lies.after;
      is = lies.is;
      leaf = let a = lies.leaf in omega (arith, a);
      slot = let a = lies.slots in omega (arith, a);
    }
