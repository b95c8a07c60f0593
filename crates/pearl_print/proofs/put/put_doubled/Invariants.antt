use Rattle.std.proofs.Common.{◌≡◌, ◌++◌, take}
use Rattle.pearl_lex.specs.Spells.{doubled}
use Rattle.pearl_print.proofs.put.put_doubled.Given as goal

abbrev pub invariant-loop-byte : goal.invariant-loop-byte
invariant-loop-byte l = l.into.items ≡ l.fn.into.items ++ doubled (take l.byte-index l.text)
