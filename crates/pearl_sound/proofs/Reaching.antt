-- Where a variable lies in leaves or in cells, each of its components is there.
use Rattle.std.specs.Prelude.{◌≡◌, ◌⊎◌, ℕ, zero, suc, ◌+◌, ◌*◌, ◌≤◌, ◌<◌, ℤ, ◌-ℤ◌, unsigned_abs, Bool, true, false, if◌then◌else◌, nat_le, List, [], ◌∷◌, ◌++◌, length, map, take, drop, replicate, Option, Some, None, slice_get}
use Rattle.std.specs.List.{AllByRecursion, list_all}
use Rattle.std.proofs.Common.{inl, inr, refl, ap, ◌∙◌, sym, subst, arith}
use Rattle.std.specs.Str.{bytes_eq}
use Rattle.std.proofs.lemmas.Option.{none-some}
use Rattle.std.proofs.lemmas.Bool.{leb-true}
use Rattle.std.proofs.lemmas.List.{append-nil, append_assoc, length-append, length-map, map-append, take_all}
use Rattle.std.proofs.lemmas.List.Concat.{flat_map-append}
use Rattle.std.proofs.lemmas.List.Folds.{list_all-append}
use Rattle.std.proofs.lemmas.List.Sums.{sum_by-append}
use Rattle.pearl_value.specs.declared.kind.Kind.{Kind}
use Rattle.pearl_value.specs.declared.kind.CellKind.TheVariants.{Plain}
use Rattle.pearl_tree.specs.declared.name.Name.{Name}
use Rattle.pearl_tree.specs.Names.{name_text}
use Rattle.pearl_names.specs.Shapes.{Shape, OfKind, OfFields, Fields, NoField, MoreField}
use Rattle.pearl_names.specs.Layout as layout
use Rattle.pearl_names.specs.Layout.{Leaf, leaves_of, leaf_slots, slots_of, is_sound_leaf}
use Rattle.pearl_names.specs.Forms.{Component, component, leaf_count, slot_count}
use Rattle.pearl_program.specs.declared.expression.Target.{Target}
use Rattle.pearl_program.specs.declared.expression.Target.TheVariants as target
use Rattle.pearl_program.specs.PlainExpressions.{PlainExprs}
use Rattle.pearl_program.specs.PlainPrograms.{PlainLeaf}
use Rattle.pearl_program.specs.Typing.{Around, elements, IsBound, AreOpen, IsLeafOf}
use Rattle.pearl_resolve.specs.Laying.{slots}
use Rattle.pearl_resolve.specs.Expressions.{Walk, bound_of, moved, to_field}
use Rattle.pearl_sound.specs.SoundForms.{AreBounds, HasBounds, FieldsHaveBounds}
use Rattle.pearl_sound.specs.SoundNames.{IsVariableAt, IsEnd, Follows}
use Rattle.pearl_sound.proofs.Going.{slots_length}
use Rattle.pearl_sound.proofs.Components.{components_lie}
use Rattle.pearl_sound.proofs.SoundForms.{all_append}
use Rattle.pearl_sound.proofs.SoundParts.{some_one}
use Rattle.pearl_sound.proofs.Stretched.{Lies, taken}
use Rattle.pearl_sound.proofs.Subscripting.{both}

pub inner_lies : {X : Type 0} {whole : List X} {at : ℕ} (before part behind : List X) → Lies whole (before ++ (part ++ behind)) at →
    Lies whole part (at + length before)
inner_lies before part behind lies = record {
  before = lies.before ++ before;
  behind = behind ++ lies.behind;
  is = lies.is ∙ ap (λ xs. lies.before ++ xs) (append_assoc before (part ++ behind) lies.behind ∙
      ap (λ xs. before ++ xs) (append_assoc part behind lies.behind)) ∙
      sym (append_assoc lies.before before (part ++ (behind ++ lies.behind)));
  begins = let a = length-append lies.before before in let b = lies.begins in omega (arith, a, b);
}

-- what a leaf is apart from names and values
abbrev pub part_of : Leaf → Kind × ℕ
part_of leaf = (leaf.kind, layout.elements leaf.bounds)

abbrev pub plain_part : PlainLeaf → Kind × ℕ
plain_part leaf = (leaf.values.kind, leaf.values.count)

-- these leaves lie at a target
abbrev pub LieAt : Around → Target → List Leaf → Type 0
LieAt around (target.Leaf number) leaves = Lies (map plain_part around.leaves) (map part_of leaves) number
LieAt around (target.Own cell) leaves = Lies around.cells (map Plain (slots_of leaves)) cell × AreOpen around.hidden cell (slots leaves)
LieAt around (target.Param cell) leaves = ⊥

same_elements : (pairs : List (ℤ × ℤ)) → elements (map bound_of pairs) ≡ layout.elements pairs
same_elements [] = refl
same_elements (pair ∷ rest) = ap (λ n. (unsigned_abs (pair.1 -ℤ pair.0) + 1) * n) (same_elements rest)

pub narrower : (hidden : List ℕ) (cell count other some : ℕ) → cell ≤ other → other + some ≤ cell + count → AreOpen hidden cell count →
    AreOpen hidden other some
narrower [] cell count other some low high free = tt
narrower (x ∷ rest) cell count other some low high free = (by free.0, narrower rest cell count other some low high free.1)
  where
    by : (x < cell) ⊎ (cell + count ≤ x) → (x < other) ⊎ (other + some ≤ x)
    by (inl less) = inl (omega (arith, less, low))
    by (inr more) = inr (omega (arith, more, high))

cells_length : (leaves : List Leaf) → length (map Plain (slots_of leaves)) ≡ slots leaves
cells_length leaves = length-map (slots_of leaves) (λ kind. Plain kind) ∙ slots_length leaves

cells_append : (one two : List Leaf) → map Plain (slots_of (one ++ two)) ≡ map Plain (slots_of one) ++ map Plain (slots_of two)
cells_append one two = ap (λ kinds. map Plain kinds) (flat_map-append leaf_slots one two) ∙ map-append Plain (slots_of one) (slots_of two)

slots_append : (one two : List Leaf) → slots (one ++ two) ≡ slots one + slots two
slots_append one two = sum_by-append (λ (leaf : Leaf). layout.elements leaf.bounds) one two

-- a component among them
part_lies : (around : Around) (to : Target) (before part behind : List Leaf) (times : ℕ) (field : Component) →
    LieAt around to (before ++ (part ++ behind)) → field.leaf ≡ length before → times * field.slot ≡ slots before →
    LieAt around (moved to times field) part
part_lies around (target.Leaf number) before part behind times field lie leaf slot =
    let split = map-append part_of before (part ++ behind) ∙ ap (λ xs. map part_of before ++ xs) (map-append part_of part behind) in
    let count : number + length (map part_of before) ≡ number + field.leaf = let same = length-map before part_of in omega (arith, same, leaf) in
    subst (λ n. Lies (map plain_part around.leaves) (map part_of part) n) count
    (inner_lies (map part_of before) (map part_of part) (map part_of behind)
    (subst (λ parts. Lies (map plain_part around.leaves) parts number) split lie))
part_lies around (target.Own cell) before part behind times field lie leaf slot =
    let split = cells_append before (part ++ behind) ∙ ap (λ xs. map Plain (slots_of before) ++ xs) (cells_append part behind) in
    let same = cells_length before in
    let count : cell + length (map Plain (slots_of before)) ≡ cell + times * field.slot = omega (arith, same, slot) in
    let all = slots_append before (part ++ behind) in
    let more = slots_append part behind in (
      subst (λ n. Lies around.cells (map Plain (slots_of part)) n) count
          (inner_lies (map Plain (slots_of before)) (map Plain (slots_of part)) (map Plain (slots_of behind))
          (subst (λ cells. Lies around.cells cells cell) split lie.0)),
      narrower around.hidden cell (slots (before ++ (part ++ behind))) (cell + times * field.slot) (slots part) (omega arith)
          (omega (arith, all, more, slot)) lie.1,
    )
part_lies around (target.Param cell) before part behind times field lie leaf slot = absurd lie

pub map_replicate : (n : ℕ) (kind : Kind) → map Plain (replicate n kind) ≡ replicate n (Plain kind)
map_replicate zero kind = refl
map_replicate (suc n) kind = ap (λ cells. Plain kind ∷ cells) (map_replicate n kind)

get_map : {X Y : Type 0} (f : X → Y) (before : List Y) (y : Y) (behind : List Y) (xs : List X) (n : ℕ) → map f xs ≡ before ++ (y ∷ behind) →
    length before ≡ n → (x : X) × (slice_get xs n ≡ Some x) × (f x ≡ y)
get_map f [] y behind [] n is count = let none = ap length is in absurd (omega (arith, none))
get_map f [] y behind (x ∷ xs) n is count =
    (x, subst (λ m. slice_get (x ∷ xs) m ≡ Some x) count refl, some_one (ap (λ ys. slice_get ys 0) is))
get_map f (b ∷ before) y behind [] n is count = let none = ap length is in absurd (omega (arith, none))
get_map f (b ∷ before) y behind (x ∷ xs) n is count =
    let found = get_map f before y behind xs (length before) (ap (λ ys. drop 1 ys) is) refl in
    (found.0, subst (λ m. slice_get (x ∷ xs) m ≡ Some found.0) count found.1, found.2)

-- one leaf
one_there : (around : Around) (to : Target) (leaf : Leaf) → LieAt around to (leaf ∷ []) → IsVariableAt around to (map bound_of leaf.bounds) leaf.kind
one_there around (target.Leaf number) leaf lie =
    let found = get_map plain_part lie.before (part_of leaf) lie.behind around.leaves number lie.is lie.begins in
    subst (λ here. IsLeafOf here (map bound_of leaf.bounds) leaf.kind) (sym found.1)
    (ap (λ (part : Kind × ℕ). part.0) found.2, same_elements leaf.bounds ∙ sym (ap (λ (part : Kind × ℕ). part.1) found.2))
one_there around (target.Own cell) leaf lie =
    let count = layout.elements leaf.bounds in
    let part = map Plain (slots_of (leaf ∷ [])) in
    let whole = cells_length (leaf ∷ []) in
    let here : cell ≡ cell + 0 = omega arith in
    let same = same_elements leaf.bounds in (
      subst (λ n. take n (drop cell around.cells) ≡ replicate n (Plain leaf.kind)) (sym same)
          (ap (λ n. take count (drop n around.cells)) here ∙ taken lie.0 count 0 (omega (arith, whole)) ∙
          take_all count part (omega (arith, whole)) ∙ ap (λ kinds. map Plain kinds) (append-nil (replicate count leaf.kind)) ∙
          map_replicate count leaf.kind),
      narrower around.hidden cell (slots (leaf ∷ [])) cell (elements (map bound_of leaf.bounds)) (omega arith) (omega (arith, same)) lie.1,
    )
one_there around (target.Param cell) leaf lie = absurd lie

-- bounds of components
pub component_has : (leaves slot : ℕ) (fields : Fields) (text : List ℕ) (field : Component) → FieldsHaveBounds fields →
    component leaves slot fields text ≡ Some field → AreBounds field.bounds × HasBounds field.shape
component_has leaves slot NoField text field has is = absurd (none-some field is)
component_has leaves slot (MoreField name own shape rest) text field has is =
    by (bytes_eq text name) is (λ more. component_has (leaves + leaf_count shape) (slot + slot_count own shape) rest text field has.2 more)
  where
    by : (same : Bool) → (if same then Some (record { bounds = own; shape = shape; leaf = leaves; slot = slot }) else
        component (leaves + leaf_count shape) (slot + slot_count own shape) rest text) ≡ Some field →
        (component (leaves + leaf_count shape) (slot + slot_count own shape) rest text ≡ Some field → AreBounds field.bounds × HasBounds field.shape) →
        AreBounds field.bounds × HasBounds field.shape
    by true is more = subst (λ (found : Component). AreBounds found.bounds × HasBounds found.shape) (some_one is) (has.0, has.1)
    by false is more = more is

both_bounds : (one two : List (ℤ × ℤ)) → AreBounds one → AreBounds two → AreBounds (one ++ two)
both_bounds one two first second =
    subst (λ bounds. AllByRecursion IsBound bounds) (sym (map-append bound_of one two))
    (all_append IsBound (map bound_of one) (map bound_of two) first second)

part_small : (before part behind : List Leaf) → list_all is_sound_leaf (before ++ (part ++ behind)) ≡ true → list_all is_sound_leaf part ≡ true
part_small before part behind small =
    let one = both (list_all is_sound_leaf before) (list_all is_sound_leaf (part ++ behind))
    (sym (list_all-append is_sound_leaf before (part ++ behind)) ∙ small) in
    (both (list_all is_sound_leaf part) (list_all is_sound_leaf behind) (sym (list_all-append is_sound_leaf part behind) ∙ one.1)).0

end_there : (around : Around) (to : Target) (path : List (List ℕ)) (pairs : List (ℤ × ℤ)) (shape : Shape) → LieAt around to (leaves_of path pairs shape) →
    list_all is_sound_leaf (leaves_of path pairs shape) ≡ true → IsEnd around false shape to (map bound_of pairs)
end_there around to path pairs (OfKind kind) lie small =
    let leaf : Leaf = record { path = path; bounds = pairs; kind = kind } in
    let tests = both (nat_le (length pairs) 3) (nat_le (layout.elements pairs) 65536) (both (is_sound_leaf leaf) true small).0 in
    let few = leb-true (length pairs) 3 tests.0 in
    let same = length-map pairs bound_of in
    (omega (arith, few, same), one_there around to leaf lie)
end_there around to path pairs (OfFields fields) lie small = tt

abbrev walk_at : Target → List (ℤ × ℤ) → Shape → PlainExprs → Walk
walk_at to pairs shape subscripts = record { target = to; shape = shape; bounds = map bound_of pairs; subscripts = subscripts }

pub reach : (around : Around) (subscripts : PlainExprs) (names : List Name) (to : Target) (path : List (List ℕ)) (pairs : List (ℤ × ℤ)) (shape : Shape) →
    LieAt around to (leaves_of path pairs shape) → AreBounds pairs → HasBounds shape →
    list_all is_sound_leaf (leaves_of path pairs shape) ≡ true → Follows around false (walk_at to pairs shape subscripts) names
reach around subscripts [] to path pairs shape lie sound has small =
    record { sound = sound; end = end_there around to path pairs shape lie small }
reach around subscripts (name ∷ names) to path pairs (OfKind kind) lie sound has small =
    reach around subscripts names to path pairs (OfKind kind) lie sound has small
reach around subscripts (name ∷ names) to path pairs (OfFields fields) lie sound has small =
    by (component 0 0 fields (name_text name)) refl (reach around subscripts names to path pairs (OfFields fields) lie sound has small)
    (λ to path pairs shape lie sound has small. reach around subscripts names to path pairs shape lie sound has small)
  where
    by : (field : Option Component) → component 0 0 fields (name_text name) ≡ field →
        Follows around false (walk_at to pairs (OfFields fields) subscripts) names →
        ((to : Target) (path : List (List ℕ)) (pairs : List (ℤ × ℤ)) (shape : Shape) → LieAt around to (leaves_of path pairs shape) →
        AreBounds pairs → HasBounds shape → list_all is_sound_leaf (leaves_of path pairs shape) ≡ true →
        Follows around false (walk_at to pairs shape subscripts) names) →
        Follows around false (to_field (walk_at to pairs (OfFields fields) subscripts) field) names
    by None is here more = here
    by (Some field) is here more =
        let lies = components_lie path pairs fields (name_text name) field is in
        let part = leaves_of (path ++ name_text name ∷ []) (pairs ++ field.bounds) field.shape in
        let own = component_has 0 0 fields (name_text name) field has is in
        let times = elements (map bound_of pairs) in
        let slot = lies.slot in
        let same = same_elements pairs in
        subst (λ bounds. Follows around false (record { target = moved to times field; shape = field.shape; bounds = bounds; subscripts = subscripts }) names)
        (map-append bound_of pairs field.bounds)
        (more (moved to times field) (path ++ name_text name ∷ []) (pairs ++ field.bounds) field.shape
        (part_lies around to lies.before part lies.behind times field (subst (λ leaves. LieAt around to leaves) lies.is lie) lies.leaf
        (ap (λ n. n * field.slot) same ∙ slot))
        (both_bounds pairs field.bounds sound own.0) own.1
        (part_small lies.before part lies.behind (ap (λ leaves. list_all is_sound_leaf leaves) (sym lies.is) ∙ small)))
