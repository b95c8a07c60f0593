use Rattle.std.proofs.Common.{◌≡◌, ◌++◌}
use Rattle.pearl_print.specs.Spelled.{binary}
use Rattle.pearl_print.proofs.put.put_binary.Given as goal

abbrev pub invariant-loop-left : goal.invariant-loop-left
invariant-loop-left l = l.into.items ++ binary l.left l.value ≡ l.fn.into.items ++ binary l.len l.value

abbrev pub decreases-loop-left : goal.decreases-loop-left
decreases-loop-left l = l.left
