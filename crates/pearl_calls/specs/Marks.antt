-- What a search for calls has marked, and which calls are still open while procedures are numbered.
use Rattle.std.specs.Prelude.{◌≡◌, ℕ, ◌+◌, ◌<◌, Bool, true, false, not, if◌then◌else◌, List, [], ◌∷◌, length, nat_eq, slice_index, slice_index_or}
use Rattle.std.specs.List.{list_any}
use Rattle.pearl_calls.specs.Callers.{Caller, callees}
use Rattle.pearl_calls.specs.Numberings.{waits}

abbrev pub one_if : Bool → ℕ
one_if b = if b then 1 else 0

-- how often a number stands in a list
abbrev pub times : ℕ → List ℕ → ℕ
times n [] = 0
times n (number ∷ rest) = one_if (nat_eq n number) + times n rest

abbrev pub is_marked : List Bool → ℕ → Bool
is_marked marks number = slice_index_or marks number false

abbrev pub unmarked : List Bool → ℕ
unmarked [] = 0
unmarked (mark ∷ rest) = one_if (not mark) + unmarked rest

-- these callees are marked, and those that weren't are to be looked at
pub record MarksCallees (numbers : List ℕ) (old new : List Bool) (before after : List ℕ) : Type 0 where
  pub same_length : length new ≡ length old
  pub kept : (number : ℕ) → is_marked old number ≡ true → is_marked new number ≡ true
  pub pending : (number : ℕ) → list_any (nat_eq number) before ≡ true → list_any (nat_eq number) after ≡ true
  pub all : (number : ℕ) → list_any (nat_eq number) numbers ≡ true → number < length old → is_marked new number ≡ true
  pub only : (number : ℕ) → is_marked old number ≡ false → is_marked new number ≡ true →
      (list_any (nat_eq number) numbers ≡ true) × (list_any (nat_eq number) after ≡ true)
  pub beside : (number : ℕ) → list_any (nat_eq number) after ≡ true → list_any (nat_eq number) before ≡ false → is_marked new number ≡ true
  pub work : unmarked new + length after ≡ unmarked old + length before

-- how many calls of procedures without a number there are among these
abbrev pub open_among : List Caller → (numbered : List ℕ) → List ℕ → ℕ
open_among procedures numbered [] = 0
open_among procedures numbered (number ∷ rest) = one_if (waits procedures numbered number) + open_among procedures numbered rest

-- at each procedure the numbers of those that call it, as often as they do
abbrev pub AreCallersOf : List Caller → List (List ℕ) → Type 0
AreCallersOf procedures calling = (callee caller : ℕ) → callee < length procedures →
    times caller (slice_index_or calling callee []) ≡ times callee (callees procedures caller)

-- a procedure that has no open call
abbrev pub is_closed : List ℕ → ℕ → Bool
is_closed open_calls procedure = nat_eq (slice_index open_calls procedure) 0
