-- How far some part goes on, where that is told no earlier than what stands before it was stopped.
use Rattle.std.specs.Prelude.{◌≡◌, ℕ, ◌≤◌, max, Bool, false, List, length, Option}
use Rattle.pearl_tree.specs.declared.token.What.{What}
use Rattle.pearl_tree.specs.declared.token.Token.{Token}
use Rattle.pearl_tree.specs.Standing.{Spelling}
use Rattle.pearl_parse_expr.specs.declared.reading.Halt.{Halt}
use Rattle.pearl_parse_expr.specs.declared.reading.Halt.TheVariants.{Refused, NoMemory}
use Rattle.pearl_parse_expr.specs.Least.{ReachesIn, GoesIn}
use Rattle.pearl_parse_expr.specs.Stops.{Stuck}

-- where a part was read that ends at `end`
abbrev pub GoesBehind : {X : Type 0} → ℕ → (List Token → Spelling X) → List Token → ℕ → ℕ → ℕ → ℕ → Type 0
GoesBehind room spells tokens from least_stop end stop =
    (own : ℕ) × (end ≤ own) × GoesIn room spells tokens from end own × (stop ≡ max own least_stop)

-- where none was read
abbrev pub HaltsBehind : {X : Type 0} → ℕ → (List Token → Spelling X) → List Token → ℕ → ℕ → Halt → Type 0
HaltsBehind room spells tokens from least_stop NoMemory = Unit {0}
HaltsBehind room spells tokens from least_stop (Refused stop) =
    (own : ℕ) × (from ≤ own) × (own ≤ length tokens) × ReachesIn room spells tokens from own ×
    (stop ≡ max own least_stop)

-- nothing was read: for want of memory, or since with this token, no earlier one than at `least_stop`, none begins
abbrev pub IsStopped : {X : Type 0} → (List Token → Spelling X) → List Token → ℕ → ℕ → Halt → Type 0
IsStopped {X} spells tokens from least_stop NoMemory = Unit {0}
IsStopped {X} spells tokens from least_stop (Refused stop) =
    Stuck spells tokens from stop × (from ≤ stop) × (least_stop ≤ stop) × (stop ≤ length tokens)

-- a part is refused where another one before it was stopped
abbrev pub behind : Halt → ℕ → Halt
behind NoMemory stop = NoMemory
behind (Refused at) stop = Refused (max at stop)

-- a part that has one end
abbrev pub never : Option What → Bool
never token = false
