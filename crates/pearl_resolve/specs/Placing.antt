-- Which thing stands at each number, where things have numbers.
use Rattle.std.specs.Prelude.{ℕ, zero, suc, ◌+◌, nat_eq, if◌then◌else◌, List, [], ◌∷◌, Option, Some, None, slice_set}
use Rattle.pearl_resolve.specs.Resolve.{if_there}

-- the first thing that has this number
abbrev pub first_with : {X : Type 0} → ℕ → List ℕ → List X → Option X
first_with number [] things = None
first_with number (own ∷ numbers) [] = None
first_with number (own ∷ numbers) (thing ∷ things) = if nat_eq number own then Some thing else first_with number numbers things

-- for so many numbers from this one on
abbrev pub for_each : {X : Type 0} → (ℕ → X) → (count number : ℕ) → List X
for_each f zero number = []
for_each f (suc count) number = f number ∷ for_each f count (number + 1)

abbrev pub placed_in : {X : Type 0} → List ℕ → List X → (count number : ℕ) → List (Option X)
placed_in numbers things = for_each (λ number. first_with number numbers things)

abbrev pub collected : {X : Type 0} → List (Option X) → List X
collected [] = []
collected (place ∷ rest) = if_there place (collected rest)

-- one more is placed, if it has a number
abbrev pub put_at : {X : Type 0} → List (Option X) → Option ℕ → X → List (Option X)
put_at places None thing = places
put_at places (Some number) thing = slice_set places number (Some thing)
