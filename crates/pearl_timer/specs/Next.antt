-- Which moment is the next one at which something happens, and which number is the first one for which something holds. Moments
-- are in milliseconds since the start.
use Rattle.std.specs.Prelude.{ℕ, ◌<◌, ◌≤◌, Option, Some, None, min}

-- t is the least moment after another at which something fires, where `Fires` says at which moments it does
pub record IsNext (Fires : ℕ → Type 0) (after t : ℕ) : Type 0 where
  pub fires : Fires t
  pub later : after < t
  pub least : (u : ℕ) → Fires u → after < u → t ≤ u

-- it fires at no later moment
abbrev pub NoneIsNext : (ℕ → Type 0) → ℕ → Type 0
NoneIsNext Fires after = (u : ℕ) → Fires u → after < u → ⊥

-- n is the first number from another one on for which something holds, where `Is` says for which it does
pub record IsFirstFrom (Is : ℕ → Type 0) (start n : ℕ) : Type 0 where
  pub from : start ≤ n
  pub holds : Is n
  pub first : (other : ℕ) → start ≤ other → other < n → Is other → ⊥

-- it holds for none from there on
abbrev pub NoneFrom : (ℕ → Type 0) → ℕ → Type 0
NoneFrom Is start = (other : ℕ) → start ≤ other → Is other → ⊥

-- the earlier of two moments, or the one that there is
abbrev pub earlier : Option ℕ → Option ℕ → Option ℕ
earlier None u = u
earlier (Some t) None = Some t
earlier (Some t) (Some u) = Some (min t u)
