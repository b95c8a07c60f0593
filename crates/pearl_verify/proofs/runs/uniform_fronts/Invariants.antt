use Rattle.std.proofs.Common.{◌≡◌, ◌≤◌, ◌+◌, length, drop}
use Rattle.pearl_verify.specs.Runs.{uniform_front, from_each}
use Rattle.pearl_verify.proofs.runs.uniform_fronts.Given as goal

abbrev pub invariant-cells : goal.invariant-cells
invariant-cells l =
    (l.from ≤ length l.cells) × (length l.fronts.items ≡ length l.cells) × (l.front ≡ uniform_front (drop l.from l.cells)) × (l.front + l.from ≤ length l.cells)
    × (drop l.from l.fronts.items ≡ from_each uniform_front (drop l.from l.cells))

abbrev pub decreases-cells : goal.decreases-cells
decreases-cells l = l.from
