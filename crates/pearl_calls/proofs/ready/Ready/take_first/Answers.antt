use Rattle.std.proofs.Common.{ℕ}
use Rattle.std.proofs.lemmas.List.Sorted.{IsPermutation-map}
use Rattle.std.specs.BinaryHeap.{heap_items}
use Rattle.std.specs.declared.cmp.Reverse.{Reverse}
use Rattle.pearl_calls.proofs.Least.{least}
use Rattle.pearl_calls.proofs.ready.Ready.take_first.Goals as goal
use Rattle.pearl_calls.proofs.ready.Ready.take_first.Goals.{in-Some, in-None}

pub returns-clause-rest : goal.returns-clause-rest
returns-clause-rest c = elim c.match-pop.branch [
  | in-Some w ↦ rw (w.result-is, ← c.self.view_is) (IsPermutation-map (λ (x : Reverse ℕ). x.0) _ _ w.in-Some.ensures.permutation)
  | in-None w ↦ rw w.result-is tt
]

pub returns-clause-first : goal.returns-clause-first
returns-clause-first c = elim c.match-pop.branch [
  | in-Some w ↦ rw (w.result-is, ← c.self.view_is) (least w.in-Some.field-0 (heap_items c.self.inside.heap) (w.in-Some.ensures.heap_order c.self.invariant).1)
  | in-None w ↦ rw w.result-is tt
]
