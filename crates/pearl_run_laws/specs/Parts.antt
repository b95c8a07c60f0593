-- Which two entries are an entry in two parts.
use Rattle.std.specs.Prelude.{◌≡◌, ℕ, ◌+◌, List, [], ◌∷◌}
use Rattle.pearl_rules.specs.declared.entry.Entry.{Entry}
use Rattle.pearl_rules.specs.declared.entry.Entry.TheVariants.{Run, Tick, Pass}

-- `run`, `tick` and `pass` may end after any of their marks: the rest is done by one of the same kind. The first time
-- of `pass` is a millisecond and then its picks.
pub data IsParted (one : Entry) (parts : List Entry) : Type 0 where
  RunParts : (a b : ℕ) → one ≡ Run (a + b) → parts ≡ Run a ∷ Run b ∷ [] → IsParted one parts
  TickParts : (a b : ℕ) → one ≡ Tick (a + b) → parts ≡ Tick a ∷ Tick b ∷ [] → IsParted one parts
  PassParts : (a b picks : ℕ) → one ≡ Pass (a + b) picks → parts ≡ Pass a picks ∷ Pass b picks ∷ [] → IsParted one parts
  FirstPass : (picks : ℕ) → one ≡ Pass 1 picks → parts ≡ Tick 1 ∷ Run picks ∷ [] → IsParted one parts
