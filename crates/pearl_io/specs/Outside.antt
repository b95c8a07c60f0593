-- What does a shelf hold, what has a sink taken, and when has a count of faults risen?
use Rattle.std.specs.Prelude.{◌≡◌, ℕ, ◌+◌, ◌-◌, ◌^◌, ◌<◌, ◌≤◌, min, ◌⊎◌, List, [], ◌∷◌, ◌++◌, length, take, drop, bytes_eq, if◌then◌else◌, Option, Some, None}

-- files in order, each its name's bytes and its bytes
abbrev pub Files : Type 0
Files = List (List ℕ × List ℕ)

-- the bytes of the first file of this name, and none where no file has it
abbrev pub content : Files → List ℕ → List ℕ
content [] name = []
content (file ∷ files) name = if bytes_eq file.0 name then file.1 else content files name

-- the next value of a count, which stays at 2 ^ 64 - 1, its last
abbrev pub following : ℕ → ℕ
following count = min (count + 1) (2 ^ 64 - 1)

-- a count rose: it is greater than before, or stands at its last value
abbrev pub CountRose : ℕ → ℕ → Type 0
CountRose before after = (before < after) ⊎ (after ≡ 2 ^ 64 - 1)

-- what is seen where writing failed: the sink's count rose, or the sink is full (as one is that just took all it has room for)
abbrev pub WriteFailed : ℕ → ℕ → Type 0 → Type 0
WriteFailed before after full = CountRose before after ⊎ full

-- `count` bytes from byte `at` on stand at the front of `into`, and none do only at the end
pub record IsPiece (bytes : List ℕ) (at count : ℕ) (into : List ℕ) : Type 0 where
  pub within : count ≤ length bytes - at
  pub same : take count into ≡ take count (drop at bytes)
  pub end : count ≡ 0 → length bytes ≤ at

-- what was taken has grown by these bytes, where it is told; where it isn't, it still isn't
abbrev pub Takes : Option (List ℕ) → Option (List ℕ) → List ℕ → Type 0
Takes None new bytes = new ≡ None
Takes (Some old) new bytes = new ≡ Some (old ++ bytes)

-- what was taken has grown by some of these bytes from the front on, and not by all
abbrev pub TakesFront : Option (List ℕ) → Option (List ℕ) → List ℕ → Type 0
TakesFront old new bytes = (count : ℕ) × (count < length bytes) × Takes old new (take count bytes)
