use Rattle.std.proofs.Common.{◌≡◌, ◌++◌, ◌-◌, length, take, reverse}
use Rattle.pearl_stack.specs.Frames.{top_operands}
use Rattle.pearl_solo.proofs.values.top_values.Given as goal

abbrev pub invariant-loop-i : goal.invariant-loop-i
invariant-loop-i l =
    (l.values.items ++ reverse (take (l.count - l.i) (top_operands l.stack.frames)) ≡ reverse (take l.count (top_operands l.stack.frames))) × (length l.values.items ≡ l.i)
