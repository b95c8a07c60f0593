use Rattle.std.proofs.Common.{◌≡◌, ◌≤◌, ◌+◌, ◌++◌, length}
use Rattle.pearl_format.specs.Fields.{last_digits}
use Rattle.pearl_script.proofs.literal.push_bits.Given as goal

abbrev pub invariant-loop-left : goal.invariant-loop-left
invariant-loop-left l = record {
  text : l.into.items ++ last_digits 1 l.left l.value ≡ l.fn.into.items ++ last_digits 1 l.len l.value;
  few : l.left ≤ l.len;
  long : length l.into.items + l.left ≡ length l.fn.into.items + l.len;
}

abbrev pub decreases-loop-left : goal.decreases-loop-left
decreases-loop-left l = l.left
