-- The greatest of a heap of reversed numbers is the least number.
use Rattle.std.proofs.Common.{ℕ, ◌≤◌, List, [], ◌∷◌, map, All}
use Rattle.std.proofs.lemmas.List.Elements.{All-from_recursion}
use Rattle.std.proofs.lemmas.Map.Keys.{ge_from_not_lt}
use Rattle.std.specs.List.{AllByRecursion}
use Rattle.std.specs.Ordering.{nat_cmp}
use Rattle.std.specs.BinaryHeap.{IsUpperBound}
use Rattle.std.specs.declared.cmp.Reverse.{Reverse}

least_by : (x : Reverse ℕ) (xs : List (Reverse ℕ)) → IsUpperBound (λ (a b : Reverse ℕ). nat_cmp b.0 a.0) x xs →
    AllByRecursion (λ n. x.0 ≤ n) (map (λ (y : Reverse ℕ). y.0) xs)
least_by x [] h = tt
least_by x (y ∷ xs) h = (ge_from_not_lt y.0 x.0 h.0, least_by x xs h.1)

pub least : (x : Reverse ℕ) (xs : List (Reverse ℕ)) → IsUpperBound (λ (a b : Reverse ℕ). nat_cmp b.0 a.0) x xs →
    All (λ n. x.0 ≤ n) (map (λ (y : Reverse ℕ). y.0) xs)
least x xs h = All-from_recursion (λ n. x.0 ≤ n) (map (λ (y : Reverse ℕ). y.0) xs) (least_by x xs h)
