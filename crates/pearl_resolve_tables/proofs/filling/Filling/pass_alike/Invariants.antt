use Rattle.std.proofs.Common.{◌≡◌, ◌+◌, false, List, [], Some}
use Rattle.pearl_names.specs.Layout.{Leaf}
use Rattle.pearl_resolve_tables.specs.Walks.{GoesOn}
use Rattle.pearl_resolve_tables.proofs.Merging.{Alike}
use Rattle.pearl_resolve_tables.proofs.filling.Filling.pass_alike.Given as goal

abbrev pub invariant-loop-leaf : goal.invariant-loop-leaf
invariant-loop-leaf l = record {
  slots : l.self.slots ≡ l.fn.self.slots + l.count;
  alike : (leaves : List Leaf) → GoesOn l.forms false [] (Some l.found) l.fn.self.frames.items l.fn.self.name.items leaves →
      Alike l.forms l.found.kind l.count l.self.next l.self.frames.items l.self.name.items leaves;
}
