-- Members of a list that are tested in turn: what is left of it, from one place on.
use Rattle.std.proofs.Common.{ℕ, List, drop}
use Rattle.std.specs.List.{AllByRecursion}

-- all members have it exactly if all from here on have it
pub record Left {X : Type 0} (P : X → Type 0) (xs : List X) (i : ℕ) : Type 0 where
  pub all : AllByRecursion P (drop i xs) → AllByRecursion P xs
  pub rest : AllByRecursion P xs → AllByRecursion P (drop i xs)
