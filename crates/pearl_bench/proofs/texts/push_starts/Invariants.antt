use Rattle.std.proofs.Common.{◌≡◌, ◌++◌}
use Rattle.pearl_bench.specs.Texts.{for_each, start_line}
use Rattle.pearl_bench.proofs.texts.push_starts.Given as goal

abbrev pub invariant-loop-i : goal.invariant-loop-i
invariant-loop-i l = l.text.items ≡ l.fn.text.items ++ for_each start_line l.i
