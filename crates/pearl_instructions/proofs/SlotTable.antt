-- The table of the first slots of an object's leaves.
use Rattle.std.proofs.Common.{◌≡◌, ℕ, zero, suc, ◌+◌, ◌<◌, ◌≤◌, List, [], ◌∷◌, Option, None, Some, length, slice_get, refl, ap, ◌∙◌, arith}
use Rattle.std.specs.Prelude.{slice_index_or, IfSome}
use Rattle.std.specs.List.{sum_by}
use Rattle.std.proofs.lemmas.List.Sums.{sum_by-cons}
use Rattle.std.proofs.lemmas.Option.{same_Some, get_or_from_slice_get}
use Rattle.pearl_instructions.specs.declared.object.Leaf.{Leaf}
use Rattle.pearl_instructions.specs.declared.object.Parts.{Parts as Object}
use Rattle.pearl_instructions.specs.Lawful.{IsObject}
use Rattle.pearl_instructions.specs.Objects.{first_slot}
use Rattle.pearl_instructions.specs.Slots.{IsLeafAt, first_slots}

-- what the table tells
pub slot_at : (first : ℕ) (leaves : List Leaf) (v : ℕ) → v < length leaves → slice_get (first_slots first leaves) v ≡ Some (first + first_slot leaves v)
slot_at first [] v less = absurd (omega (arith, less))
slot_at first (leaf ∷ leaves) zero less = let e : first ≡ first + 0 = omega arith in ap Some e
slot_at first (leaf ∷ leaves) (suc v) less =
    let e : first + leaf.slots + first_slot leaves v ≡ first + (leaf.slots + first_slot leaves v) = omega arith in
    slot_at (first + leaf.slots) leaves v (omega (arith, less)) ∙ ap Some e

pub slots_long : (first : ℕ) (leaves : List Leaf) → length (first_slots first leaves) ≡ length leaves
slots_long first [] = refl
slots_long first (leaf ∷ leaves) = ap suc (slots_long (first + leaf.slots) leaves)

-- a leaf's slots are among all
pub slots_within : (leaves : List Leaf) (v : ℕ) (leaf : Leaf) → slice_get leaves v ≡ Some leaf → first_slot leaves v + leaf.slots ≤ sum_by (λ leaf. leaf.slots) leaves
slots_within [] v leaf e = cc
slots_within (x ∷ leaves) zero leaf e =
    let same : x.slots ≡ leaf.slots = ap (λ l. l.slots) (same_Some x leaf e) in
    let all = sum_by-cons (λ (l : Leaf). l.slots) x leaves in
    omega (arith, same, all)
slots_within (x ∷ leaves) (suc v) leaf e =
    let behind = slots_within leaves v leaf e in
    let all = sum_by-cons (λ (l : Leaf). l.slots) x leaves in
    omega (arith, behind, all)

-- the leaf of a number, with what the table has there
pub leaf_at : (o : Object) (v : ℕ) (firsts : List ℕ) (first : ℕ) → IsObject o → firsts ≡ first_slots 0 o.leaves → v < length o.leaves →
    first ≡ slice_index_or firsts v first → IfSome (slice_get o.leaves v) (λ leaf. IsLeafAt o v leaf first)
leaf_at o v firsts first lawful is less e = of_leaf (slice_get o.leaves v) refl
  where
    told : slice_get firsts v ≡ Some (0 + first_slot o.leaves v)
    told = ap (λ xs. slice_get xs v) is ∙ slot_at 0 o.leaves v less

    number : first ≡ first_slot o.leaves v
    number = let h = e ∙ get_or_from_slice_get firsts v (0 + first_slot o.leaves v) first told in omega (arith, h)

    of_leaf : (found : Option Leaf) → slice_get o.leaves v ≡ found → IfSome found (λ leaf. IsLeafAt o v leaf first)
    of_leaf None here = tt
    of_leaf (Some leaf) here =
        let most = slots_within o.leaves v leaf here in
        let few = lawful.few_slots in
        record { there = here; number = number; few = omega (arith, number, most, few) }
