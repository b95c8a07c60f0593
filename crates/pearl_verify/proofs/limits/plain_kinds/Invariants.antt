use Rattle.std.proofs.Common.{◌≡◌, ◌++◌, drop, length}
use Rattle.std.specs.Prelude.{option_map}
use Rattle.pearl_instructions.specs.Valid.{plain_kinds}
use Rattle.pearl_verify.proofs.limits.plain_kinds.Given as goal

abbrev pub invariant-loop-cell : goal.invariant-loop-cell
invariant-loop-cell l =
    (plain_kinds l.cells ≡ option_map (λ rest. l.kinds.items ++ rest) (plain_kinds (drop l.cell-index l.cells))) × (length l.kinds.items ≡ l.cell-index)
