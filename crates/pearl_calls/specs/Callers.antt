-- Which procedures a task or procedure calls. They have numbers in the order of the text, from 0.
use Rattle.std.specs.Prelude.{ℕ, Bool, List, [], Option, Some, None, nat_eq, slice_get}
use Rattle.std.specs.List.{list_any}

-- what a task or procedure is to those that ask for its calls and its weight
pub record Caller : Type 0 where
  -- what it weighs itself
  pub own : ℕ
  -- the procedures that it calls
  pub calls : List ℕ

abbrev pub callees_of : Option Caller → List ℕ
callees_of None = []
callees_of (Some caller) = caller.calls

-- a number that names no procedure has none
abbrev pub callees : List Caller → ℕ → List ℕ
callees procedures number = callees_of (slice_get procedures number)

-- the first is a procedure, and its text has a call of the second
abbrev pub calls : List Caller → ℕ → ℕ → Bool
calls procedures from to = list_any (nat_eq to) (callees procedures from)
