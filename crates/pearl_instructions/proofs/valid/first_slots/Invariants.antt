use Rattle.std.proofs.Common.{◌≡◌, ◌+◌, ◌≤◌, ◌++◌, drop}
use Rattle.std.specs.List.{sum_by}
use Rattle.pearl_instructions.specs.Slots.{first_slots}
use Rattle.pearl_instructions.proofs.valid.first_slots.Given as goal

abbrev pub invariant-loop-leaf : goal.invariant-loop-leaf
invariant-loop-leaf l =
    (l.firsts.items ++ first_slots l.first (drop l.leaf-index l.leaves) ≡ first_slots 0 l.leaves) × (l.first + sum_by (λ leaf. leaf.slots) (drop l.leaf-index l.leaves) ≤ 65536)
