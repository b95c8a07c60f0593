-- That a stop is the least one: some part begins with the tokens before it.
use Rattle.std.specs.Prelude.{◌≡◌, ℕ, ◌+◌, ◌*◌, ◌<◌, ◌≤◌, ◌⊎◌, List, length, slice_get, IfSome, Result, Ok, Err}
use Rattle.pearl_tree.specs.declared.token.Token.{Token}
use Rattle.pearl_tree.specs.Standing.{Spelling, what_at}
use Rattle.pearl_tree.specs.Tokens.{IsLawfulWhat}
use Rattle.pearl_parse_expr.specs.declared.reading.Halt.{Halt}
use Rattle.pearl_parse_expr.specs.declared.reading.Halt.TheVariants.{Refused, NoMemory}
use Rattle.pearl_parse_expr.specs.declared.reading.Reading.{Reading}

-- the same tokens before number k, with their places
abbrev pub AlikeBefore : List Token → List Token → ℕ → Type 0
AlikeBefore tokens others k = (j : ℕ) → j < k → slice_get tokens j ≡ slice_get others j

-- from number k on some spelling means each of the tokens
abbrev pub LawfulFrom : List Token → ℕ → Type 0
LawfulFrom tokens k = (j : ℕ) → k ≤ j → IfSome (what_at tokens j) IsLawfulWhat

-- some tokens that are these before number `stop`, and lawful ones from there on, spell a part from `from` that ends
-- with them; from there on stand at most eight for each token of the part before it, and `room` more
pub record ReachesIn {X : Type 0} (room : ℕ) (spells : List Token → Spelling X) (tokens : List Token)
    (from stop : ℕ) : Type 0 where
  pub others : List Token
  pub alike : AlikeBefore tokens others stop
  pub long : stop ≤ length others
  pub short : length others + 8 * from ≤ 9 * stop + room
  pub lawful : LawfulFrom others stop
  pub part : X
  pub spelled : spells others from part (length others)

-- a part that ends at `end` was read, and it or some other one goes on as far as `stop`
pub record GoesIn {X : Type 0} (room : ℕ) (spells : List Token → Spelling X) (tokens : List Token)
    (from end stop : ℕ) : Type 0 where
  pub goes : (stop ≡ end) ⊎ ReachesIn room spells tokens from stop

-- some part goes on as far as the token at which none is read
abbrev pub HaltsIn : {X : Type 0} → ℕ → (List Token → Spelling X) → List Token → ℕ → Halt → Type 0
HaltsIn room spells tokens from NoMemory = Unit {0}
HaltsIn room spells tokens from (Refused stop) = ReachesIn room spells tokens from stop

-- some part goes on as far as the stop that is told, whether a part is read or not
abbrev pub IsLeastIn : {X Y : Type 0} → ℕ → (List Token → Spelling X) → List Token → ℕ →
    Result (Reading Y) Halt → Type 0
IsLeastIn room spells tokens from (Ok reading) = GoesIn room spells tokens from reading.end reading.stop
IsLeastIn room spells tokens from (Err halt) = HaltsIn room spells tokens from halt

-- the same with the room that parts without statements need
abbrev pub Reaches : {X : Type 0} → (List Token → Spelling X) → List Token → ℕ → ℕ → Type 0
Reaches = ReachesIn 16

abbrev pub GoesTo : {X : Type 0} → (List Token → Spelling X) → List Token → ℕ → ℕ → ℕ → Type 0
GoesTo = GoesIn 16

abbrev pub GoesToHalt : {X : Type 0} → (List Token → Spelling X) → List Token → ℕ → Halt → Type 0
GoesToHalt = HaltsIn 16

abbrev pub IsLeast : {X Y : Type 0} → (List Token → Spelling X) → List Token → ℕ → Result (Reading Y) Halt → Type 0
IsLeast = IsLeastIn 16
