use Rattle.std.proofs.Common.{◌≡◌, ℕ, ◌<◌, ◌≤◌, Some, length, drop, slice_get}
use Rattle.std.specs.Prelude.{option_map}
use Rattle.pearl_instructions.specs.Valid.{stated}
use Rattle.pearl_verify.specs.Jumps.{shape_of}
use Rattle.pearl_verify.proofs.jumps.stated_shapes.Given as goal

abbrev pub invariant-shapes : goal.invariant-shapes
invariant-shapes l =
    (l.from ≤ length l.shapes) × (length l.numbers.items ≡ l.count)
    × ((i : ℕ) → i < l.count → option_map (shape_of l.shapes) (slice_get l.numbers.items i) ≡ Some (stated (drop l.from l.shapes) i))

abbrev pub decreases-shapes : goal.decreases-shapes
decreases-shapes l = l.from
