use Rattle.std.proofs.Common.{◌≡◌, ◌+◌, ◌++◌, length}
use Rattle.pearl_format.specs.Fields.{last_digits}
use Rattle.pearl_format.proofs.field.bits_text.Given as goal

abbrev pub invariant-loop-left : goal.invariant-loop-left
invariant-loop-left l = record {
  text : l.text.items ++ last_digits l.group l.left l.whole ≡ last_digits l.group l.count l.whole;
  long : length l.text.items + l.left ≡ l.count;
}

abbrev pub decreases-loop-left : goal.decreases-loop-left
decreases-loop-left l = l.left
