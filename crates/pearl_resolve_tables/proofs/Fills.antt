-- Leaves that are made one after the other, how many slots they take, and how many elements there are within bounds.
use Rattle.std.proofs.Common.{◌≡◌, ℕ, ◌+◌, ◌*◌, ◌<◌, Bool, true, false, refl, List, [], ◌∷◌, ◌++◌, map, length, take, drop, get_or, Option, Some, None, sym, ap, ◌∙◌, append_assoc, append-nil, arith}
use Rattle.std.proofs.Math.Nat.{mul_assoc}
use Rattle.std.proofs.lemmas.List.Sums.{sum_by-cons}
use Rattle.pearl_tree.specs.ShownLiterals.{ShownConst}
use Rattle.pearl_names.specs.declared.types.StructForm.{StructForm}
use Rattle.pearl_names.specs.declared.sense.Bounds.{Bounds}
use Rattle.pearl_names.specs.Forms.{pair_of}
use Rattle.pearl_names.specs.Layout.{Leaf, elements}
use Rattle.pearl_names.proofs.Offered.{elements-append}
use Rattle.pearl_program.specs.PlainPrograms.{PlainLeaf}
use Rattle.pearl_program.specs.PlainStatements.{PlainValues}
use Rattle.pearl_resolve_tables.specs.declared.walk.Frame.{Frame}
use Rattle.pearl_resolve_tables.specs.declared.walk.Found.{Found}
use Rattle.pearl_resolve_tables.specs.Laying.{slots, constant_in, values_of_leaf, left_behind, path_name, filled_leaves, merged}
use Rattle.pearl_resolve_tables.specs.Walks.{AllLeft, IsFound, GoesOn, PassesAlike}
use Rattle.pearl_resolve_tables.proofs.Making.{one_left}

-- these leaves are left, what is kept of them so far joined with what is left is all, and so are the slots. Leaves are
-- seen as they are, or merged.
pub record Fills {X : Type 0} (kept : PlainLeaf → X) (seen : List Leaf → List Leaf) (forms : List StructForm) (asked : Bool) (base : List ℕ) (next : Option Found) (frames : List Frame) (text : List ℕ) (made begun : List X) (constants first : List ShownConst) (count : ℕ) (all : List Leaf) : Type 0 where
  pub left : List Leaf
  pub goes : GoesOn forms asked base next frames text left
  pub leaves : made ++ map kept (filled_leaves base constants (seen left)) ≡ begun ++ map kept (filled_leaves base first (seen all))
  pub counted : count + slots left ≡ slots all

pub fills_first : {X : Type 0} (kept : PlainLeaf → X) (seen : List Leaf → List Leaf) (forms : List StructForm) (asked : Bool) (base : List ℕ) (next : Option Found) (frames : List Frame) (text : List ℕ) (begun : List X) (constants first : List ShownConst) (count : ℕ) (all : List Leaf) →
    constants ≡ first → count ≡ 0 → GoesOn forms asked base next frames text all → Fills kept seen forms asked base next frames text begun begun constants first count all
fills_first kept seen forms asked base next frames text begun constants first count all same none goes = record {
  left = all;
  goes = goes;
  leaves = ap (λ c. begun ++ map kept (filled_leaves base c (seen all))) same;
  counted = omega (arith, none);
}

-- the leaf that a walk has come to, with its first values
abbrev pub plain_of : List ℕ → Found → List ShownConst → PlainLeaf
plain_of text found constants = record {
  name = text;
  values = record { kind = found.kind; count = found.count; constants = map (constant_in found.kind) (take found.count constants) };
}

pub found_values : (asked : Bool) (base : List ℕ) (found : Found) (text : List ℕ) (leaf : Leaf) (constants : List ShownConst) → IsFound asked base found text leaf →
    (plain_of text found constants).values ≡ values_of_leaf constants leaf
found_values asked base found text leaf constants is =
    λ i. record { kind = is.kind i; count = is.count i; constants = map (constant_in (is.kind i)) (take (is.count i) constants) }

-- where names are asked for, with its name
pub found_leaf : (base : List ℕ) (found : Found) (text : List ℕ) (leaf : Leaf) (constants : List ShownConst) → IsFound true base found text leaf →
    plain_of text found constants ≡ record { name = path_name base leaf.path; values = values_of_leaf constants leaf }
found_leaf base found text leaf constants is = λ i. record { name = is.name refl i; values = found_values true base found text leaf constants is i }

pub fills_more : {X : Type 0} (kept : PlainLeaf → X) (forms : List StructForm) (asked : Bool) (base : List ℕ) (found : Found) (next : Option Found) (frames after : List Frame) (text new : List ℕ) (made more begun : List X) (constants others first : List ShownConst) (count total : ℕ) (all : List Leaf) →
    Fills kept (λ leaves. leaves) forms asked base (Some found) frames text made begun constants first count all →
    more ≡ made ++ kept (plain_of text found constants) ∷ [] → others ≡ left_behind found.count constants → total ≡ count + found.count →
    ((left : List Leaf) → AllLeft forms asked base frames text left → GoesOn forms asked base next after new left) →
    ((leaf : Leaf) → IsFound asked base found text leaf → kept (plain_of text found constants) ≡ kept (record { name = path_name base leaf.path; values = values_of_leaf constants leaf })) →
    Fills kept (λ leaves. leaves) forms asked base next after new more begun others first total all
fills_more kept forms asked base found next frames after text new made more begun constants others first count total all so added behind sums goes tells =
    let leaf = so.goes.0 in
    let rest = so.goes.1 in
    let is = so.goes.2 in
    let here : slots so.left ≡ elements leaf.bounds + slots rest = ap slots so.goes.4 ∙ sum_by-cons (λ (l : Leaf). elements l.bounds) leaf rest in
    let same = is.count in
    let whole = so.counted in
    record {
      left = rest;
      goes = goes rest so.goes.3;
      leaves = (λ i. added i ++ map kept (filled_leaves base (behind i) rest))
          ∙ append_assoc made (kept (plain_of text found constants) ∷ []) (map kept (filled_leaves base (left_behind found.count constants) rest))
          ∙ (λ i. made ++ tells leaf is i ∷ map kept (filled_leaves base (left_behind (is.count i) constants) rest))
          ∙ ap (λ l. made ++ map kept (filled_leaves base constants l)) (sym so.goes.4)
          ∙ so.leaves;
      counted = omega (arith, sums, here, same, whole);
    }

-- merged ones
pub fills_past : (forms : List StructForm) (found : Found) (next : Option Found) (frames after : List Frame) (text new : List ℕ) (made more begun : List PlainValues) (constants others first : List ShownConst) (count many total : ℕ) (all : List Leaf) →
    Fills (λ (leaf : PlainLeaf). leaf.values) merged forms false [] (Some found) frames text made begun constants first count all →
    more ≡ made ++ record { kind = found.kind; count = many; constants = map (constant_in found.kind) (take many constants) } ∷ [] →
    others ≡ left_behind many constants → total ≡ count + many →
    ((leaves : List Leaf) → GoesOn forms false [] (Some found) frames text leaves → PassesAlike forms found.kind many next after new leaves) →
    Fills (λ (leaf : PlainLeaf). leaf.values) merged forms false [] next after new more begun others first total all
fills_past forms found next frames after text new made more begun constants others first count many total all so added behind sums passes =
    let past = passes so.left so.goes in
    let values = λ (leaf : PlainLeaf). leaf.values in
    let own : PlainValues = record { kind = found.kind; count = many; constants = map (constant_in found.kind) (take many constants) } in
    let told : own ≡ values_of_leaf constants past.own =
    λ i. record { kind = past.kind i; count = past.count i; constants = map (constant_in (past.kind i)) (take (past.count i) constants) } in
    let here = past.counted in
    let whole = so.counted in
    record {
      left = past.rest;
      goes = past.goes;
      leaves = (λ i. added i ++ map values (filled_leaves [] (behind i) (merged past.rest)))
          ∙ append_assoc made (own ∷ []) (map values (filled_leaves [] (left_behind many constants) (merged past.rest)))
          ∙ (λ i. made ++ told i ∷ map values (filled_leaves [] (left_behind (past.count i) constants) (merged past.rest)))
          ∙ ap (λ l. made ++ map values (filled_leaves [] constants l)) (sym past.merges)
          ∙ so.leaves;
      counted = omega (arith, sums, here, whole);
    }

-- all leaves
pub fills_all : {X : Type 0} (kept : PlainLeaf → X) (seen : List Leaf → List Leaf) → seen [] ≡ [] → (forms : List StructForm) (asked : Bool) (base : List ℕ) (frames : List Frame) (text : List ℕ) (made begun : List X) (constants first : List ShownConst) (count : ℕ) (all : List Leaf) →
    Fills kept seen forms asked base None frames text made begun constants first count all → (made ≡ begun ++ map kept (filled_leaves base first (seen all))) × (count ≡ slots all)
fills_all kept seen nothing forms asked base frames text made begun constants first count all so =
    let none : slots so.left ≡ 0 = ap slots so.goes in
    let whole = so.counted in (
      sym (append-nil made) ∙ ap (λ l. made ++ map kept (filled_leaves base constants l)) (sym (ap seen so.goes ∙ nothing)) ∙ so.leaves,
      omega (arith, none, whole),
    )

-- elements of one dimension more
pub elements_more : (xs : List Bounds) (i : ℕ) (x : Bounds) (count own next total : ℕ) → i < length xs → x ≡ get_or xs i x → own ≡ elements (pair_of x ∷ []) → next ≡ count * own →
    count * elements (map pair_of (drop i xs)) ≡ total → next * elements (map pair_of (drop (i + 1) xs)) ≡ total
elements_more xs i x count own next total inside is counted product so =
    let rest = map pair_of (drop (i + 1) xs) in
    ap (λ n. n * elements rest) (product ∙ ap (λ n. count * n) counted)
    ∙ mul_assoc count (elements (pair_of x ∷ [])) (elements rest)
    ∙ ap (λ n. count * n) (sym (elements-append (pair_of x ∷ []) rest))
    ∙ ap (λ l. count * elements (map pair_of l)) (sym (one_left xs i x inside is))
    ∙ so
