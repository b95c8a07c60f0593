use Rattle.std.proofs.Common.{◌≡◌, ◌≤◌, ◌-◌, max, ◌++◌, replicate}
use Rattle.pearl_resolve_tables.proofs.constant.filled.Given as goal

abbrev pub invariant-loop-index : goal.invariant-loop-index
invariant-loop-index l = record {
  filled : l.longer.items ≡ l.fn.text.items ++ replicate (l._index - l.from) 32;
  within : l._index ≤ max l.from l.to;
}
