-- Which number each procedure gets: again and again the first declared one whose callees all have numbers gets the next.
use Rattle.std.specs.Prelude.{◌≡◌, ℕ, ◌<◌, Bool, true, false, not, ◌&&◌, List, [], ◌∷◌, ◌++◌, length, nat_eq, nat_lt}
use Rattle.std.specs.List.{list_any}
use Rattle.pearl_calls.specs.Callers.{Caller, callees}

-- a procedure that has no number yet, where these have one; what names no procedure doesn't wait
abbrev pub waits : List Caller → (numbered : List ℕ) → ℕ → Bool
waits procedures numbered procedure = nat_lt procedure (length procedures) && not (list_any (nat_eq procedure) numbered)

-- it has no number, and all that it calls have one
abbrev pub is_ready : List Caller → (numbered : List ℕ) → ℕ → Bool
is_ready procedures numbered procedure =
    waits procedures numbered procedure && not (list_any (waits procedures numbered) (callees procedures procedure))

-- where these have numbers, this one gets the next
pub record GetsNext (procedures : List Caller) (numbered : List ℕ) (procedure : ℕ) : Type 0 where
  pub ready : is_ready procedures numbered procedure ≡ true
  -- none that is declared before it is ready
  pub first : (other : ℕ) → other < procedure → is_ready procedures numbered other ≡ false

-- where the first ones have numbers, the others get the next ones in this order
abbrev pub GetNext : List Caller → (numbered order : List ℕ) → Type 0
GetNext procedures numbered [] = Unit {0}
GetNext procedures numbered (procedure ∷ order) =
    GetsNext procedures numbered procedure × GetNext procedures (numbered ++ procedure ∷ []) order

-- the procedures in the order of their numbers from 0
pub record IsNumbering (procedures : List Caller) (order : List ℕ) : Type 0 where
  pub by_rule : GetNext procedures [] order
  -- each has a number
  pub whole : (procedure : ℕ) → procedure < length procedures → list_any (nat_eq procedure) order ≡ true
