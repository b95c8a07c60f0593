-- How far a journal was read.
use Rattle.std.specs.Prelude.{ℕ, Bool, true}

-- how many lines came before, whether no entry was accepted yet, and the moment, in milliseconds since the start
pub record Reading : Type 0 where
  pub lines : ℕ
  pub is_first : Bool
  pub moment : ℕ

-- nothing was read
abbrev pub start : Reading
start = record { lines = 0; is_first = true; moment = 0 }
