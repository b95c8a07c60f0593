use Rattle.std.proofs.Common.{◌≡◌, ◌≤◌, ◌+◌, ◌*◌, ◌++◌, length, take}
use Rattle.pearl_script.specs.Words.{spelled}
use Rattle.pearl_script.proofs.piece.push_spelled.Given as goal

abbrev pub invariant-loop-byte : goal.invariant-loop-byte
invariant-loop-byte l = (l.into.items ≡ l.fn.into.items ++ spelled (take l.byte-index l.text)) × (length l.into.items ≤ length l.fn.into.items + 2 * l.byte-index)
