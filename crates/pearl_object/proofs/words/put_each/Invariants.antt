use Rattle.std.proofs.Common.{◌≡◌, ◌++◌, drop}
use Rattle.std.specs.List.{flat_map}
use Rattle.pearl_object.proofs.words.put_each.Given as goal

abbrev pub invariant-loop-item : goal.invariant-loop-item
invariant-loop-item g l = l.out.items ++ flat_map g.T.Worded.words (drop l.item-index l.items) ≡ l.fn.out.items ++ flat_map g.T.Worded.words l.items
