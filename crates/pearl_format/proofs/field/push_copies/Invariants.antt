use Rattle.std.proofs.Common.{◌≡◌, ◌++◌, replicate}
use Rattle.pearl_format.proofs.field.push_copies.Given as goal

abbrev pub invariant-loop : goal.invariant-loop
invariant-loop l = l.into.items ≡ l.fn.into.items ++ replicate l.counter l.byte
