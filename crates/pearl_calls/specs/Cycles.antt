-- Which procedures call themselves, directly or through others.
use Rattle.std.specs.Prelude.{◌≡◌, ℕ, zero, suc, Bool, true, false, ◌||◌, List, [], ◌∷◌, length, nat_eq}
use Rattle.std.specs.List.{list_any}
use Rattle.pearl_calls.specs.Callers.{Caller, callees, calls}

-- one procedure comes to another by calls, so many at most
abbrev pub reaches : ℕ → List Caller → ℕ → ℕ → Bool
reaches zero procedures from to = false
reaches (suc steps) procedures from to =
    list_any (λ called. nat_eq to called || reaches steps procedures called to) (callees procedures from)

-- a way back without repeats has no more calls than there are procedures
abbrev pub calls_itself : List Caller → ℕ → Bool
calls_itself procedures number = reaches (length procedures) procedures number number

-- one procedure comes to another by way of these, in order
abbrev pub IsWay : List Caller → ℕ → (through : List ℕ) → ℕ → Type 0
IsWay procedures from [] to = calls procedures from to ≡ true
IsWay procedures from (next ∷ through) to = (calls procedures from next ≡ true) × IsWay procedures next through to

-- the same as `calls_itself`, with no number of calls
abbrev pub CallsItself : List Caller → ℕ → Type 0
CallsItself procedures number = (through : List ℕ) × IsWay procedures number through number

abbrev pub SomeCallsItself : List Caller → Type 0
SomeCallsItself procedures = (number : ℕ) × CallsItself procedures number
