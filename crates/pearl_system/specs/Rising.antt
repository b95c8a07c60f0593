-- When a list has each of certain things once, in order.
use Rattle.std.specs.Prelude.{◌≡◌, ◌⊎◌, ◌↔◌, ◌≢◌, ℕ, ◌<◌, List, Option, None, Some, All, Any, AllPairs, Contains}

-- the order of pairs of numbers: by the first, then by the second
abbrev pub IsLess : ℕ × ℕ → ℕ × ℕ → Type 0
IsLess a b = (a.0 < b.0) ⊎ ((a.0 ≡ b.0) × (a.1 < b.1))

abbrev pub IsRising : {X : Type 0} → (X → ℕ × ℕ) → List X → Type 0
IsRising key xs = AllPairs (λ x y. IsLess (key x) (key y)) xs

-- exactly those for which P holds, in the order of their keys
pub record Lists {X : Type 0} (key : X → ℕ × ℕ) (P : X → Type 0) (xs : List X) : Type 0 where
  pub rising : IsRising key xs
  pub exact : (x : X) → Contains xs x ↔ P x

-- what adding a thing makes of a list: where its key stands already, nothing
abbrev pub Joins : {X : Type 0} → (X → ℕ × ℕ) → X → List X → List X → Type 0
Joins {X} key x old new =
    (Any (λ y. key y ≡ key x) old × (new ≡ old))
    ⊎ (All (λ y. key y ≢ key x) old × ((y : X) → Contains new y ↔ (Contains old y ⊎ (y ≡ x))))

abbrev pub JoinsSome : {X : Type 0} → (X → ℕ × ℕ) → Option X → List X → List X → Type 0
JoinsSome key None old new = new ≡ old
JoinsSome key (Some x) old new = Joins key x old new
