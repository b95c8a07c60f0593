use Rattle.std.proofs.Common.{◌≡◌, ◌≤◌, ◌+◌, ◌*◌, ◌++◌, length, take}
use Rattle.std.specs.List.{flat_map}
use Rattle.pearl_script.specs.Literals.{quoted_byte}
use Rattle.pearl_script.proofs.literal.push_quoted.Given as goal

abbrev pub invariant-loop-byte : goal.invariant-loop-byte
invariant-loop-byte l = (l.into.items ≡ l.fn.into.items ++ flat_map quoted_byte (take l.byte-index l.text))
    × (length l.into.items ≤ length l.fn.into.items + 2 * l.byte-index)
