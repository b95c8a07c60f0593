-- Where the slots of an object's leaves begin.
use Rattle.std.specs.Prelude.{◌≡◌, ℕ, ◌+◌, ◌≤◌, List, [], ◌∷◌, Some, slice_get}
use Rattle.pearl_instructions.specs.declared.object.Leaf.{Leaf}
use Rattle.pearl_instructions.specs.declared.object.Parts.{Parts as Object}
use Rattle.pearl_instructions.specs.Objects.{first_slot}

-- leaf v of the object, whose first slot has this number
pub record IsLeafAt (o : Object) (v : ℕ) (leaf : Leaf) (first : ℕ) : Type 0 where
  pub there : slice_get o.leaves v ≡ Some leaf
  pub number : first ≡ first_slot o.leaves v
  pub few : first + leaf.slots ≤ 65536

-- the numbers of the leaves' first slots, that of the first leaf being given
abbrev pub first_slots : ℕ → List Leaf → List ℕ
first_slots first [] = []
first_slots first (leaf ∷ leaves) = first ∷ first_slots (first + leaf.slots) leaves
