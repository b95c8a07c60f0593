-- An object's tables have as many slots as its leaves.
use Rattle.std.proofs.Common.{◌≡◌, ◌-◌, List, [], ◌∷◌, length, refl, arith}
use Rattle.std.specs.Prelude.{replicate}
use Rattle.std.specs.List.{AllByRecursion, flat_map, sum_by}
use Rattle.std.proofs.lemmas.List.{length-append, length-replicate}
use Rattle.std.proofs.lemmas.List.Sums.{sum_by-cons}
use Rattle.pearl_value.specs.Blanks.{blank_of, last_or}
use Rattle.pearl_instructions.specs.declared.object.Leaf.{Leaf}
use Rattle.pearl_instructions.specs.Lawful.{IsLeaf}
use Rattle.pearl_instructions.specs.Setups.{first_cells}

leaf_slots : (leaf : Leaf) → IsLeaf leaf → length (first_cells leaf) ≡ leaf.slots
leaf_slots leaf is =
    let unset = leaf.slots - length leaf.constants in
    let last = last_or (blank_of leaf.kind) leaf.constants in
    omega (arith, length-append leaf.constants (replicate unset last), length-replicate unset last, is.few)

pub table_slots : (leaves : List Leaf) → AllByRecursion IsLeaf leaves → length (flat_map first_cells leaves) ≡ sum_by (λ leaf. leaf.slots) leaves
table_slots [] all = refl
table_slots (leaf ∷ leaves) all =
    omega (
      arith,
      leaf_slots leaf all.0,
      table_slots leaves all.1,
      length-append (first_cells leaf) (flat_map first_cells leaves),
      sum_by-cons (λ (leaf : Leaf). leaf.slots) leaf leaves,
    )
