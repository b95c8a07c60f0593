-- What is still to be written of a list, as a loop goes over it.
use Rattle.std.proofs.Common.{◌≡◌, ℕ, List, ◌++◌}
use Rattle.std.specs.List.{AllByRecursion}
use Rattle.pearl_object.specs.Listing.{numbered}

-- each of the rest is lawful, and so much is still to be written
pub record AreLeft {X : Type 0} (lawful : X → Type 0) (lines : ℕ → X → List ℕ) (i : ℕ) (rest : List X) (out total : List ℕ) : Type 0 where
  pub each : AllByRecursion lawful rest
  pub written : out ++ numbered lines i rest ≡ total
