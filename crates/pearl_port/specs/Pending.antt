-- What waits at an input and at a terminal, from the oldest on, and how much may wait there.
use Rattle.std.specs.Prelude.{◌≡◌, ℕ, ◌-◌, List, [], ◌∷◌, ◌++◌, drop, length}
use Rattle.pearl_value.specs.declared.kind.Kind.{Kind}

-- the kind of an input's values, how many may wait, and those that wait
pub record Queue (X : Type 0) : Type 0 where
  pub kind : Kind
  pub room : ℕ
  pub items : List X

module _ {X : Type 0} where
  abbrev pub empty : Kind → ℕ → Queue X
  empty kind room = record { kind = kind; room = room; items = [] }

  abbrev pub IsFull : Queue X → Type 0
  IsFull queue = length queue.items ≡ queue.room

  -- one more behind all that wait
  abbrev pub joined : Queue X → X → Queue X
  joined queue item = record queue { items = queue.items ++ item ∷ [] }

  -- without the oldest, where there is one
  abbrev pub served : Queue X → Queue X
  served queue = record queue { items = drop 1 queue.items }

-- how many more bytes may wait at a terminal, at which 4,096 may
abbrev pub free : List ℕ → ℕ
free bytes = 4096 - length bytes
