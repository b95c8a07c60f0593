use Rattle.std.proofs.Common.{◌≡◌, ◌≤◌, Some, reverse, take}
use Rattle.std.specs.BTreeMap.{btree_map_len}
use Rattle.pearl_verify.specs.Numbers.{number_of, IsTree, Grows}
use Rattle.pearl_verify.proofs.tree.ShapeTree.add.Given as goal

abbrev pub invariant-loop-kind : goal.invariant-loop-kind
invariant-loop-kind l =
    (number_of l.self.edges (reverse (take l.kind-index l.kinds)) ≡ Some l.number) × IsTree l.self.edges × Grows l.initial.self.edges l.self.edges
    × (l.number ≤ btree_map_len l.self.edges)
