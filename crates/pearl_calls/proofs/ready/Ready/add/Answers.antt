use Rattle.std.proofs.Common.{ℕ}
use Rattle.std.proofs.lemmas.List.Sorted.{IsPermutation-map}
use Rattle.std.specs.declared.cmp.Reverse.{Reverse}
use Rattle.pearl_calls.proofs.ready.Ready.add.Goals as goal

pub returns-clause-ok : goal.returns-clause-ok
returns-clause-ok c = rw (← c.self.view_is) (IsPermutation-map (λ (x : Reverse ℕ). x.0) _ _ c.in_ok-push.ensures.permutation)
