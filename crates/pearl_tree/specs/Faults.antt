-- Broken static rules as plain data, and which list tells them: exactly those that are broken, by place and then by rule,
-- and each once.
use Rattle.std.specs.Prelude.{◌≡◌, ◌⊎◌, ◌↔◌, ℕ, ◌<◌, Bool, true, false, List, [], ◌∷◌, AllPairs, Contains}
use Rattle.pearl_tree.specs.declared.fault.RuleFault.{RuleFault}

-- this rule is broken at this place, where the test is true
abbrev pub fault_if : Bool → ℕ → ℕ → List RuleFault
fault_if true place rule = record { place = place; rule = rule } ∷ []
fault_if false place rule = []

-- by place, and then by rule
abbrev pub IsBefore : RuleFault → RuleFault → Type 0
IsBefore a b = (a.place < b.place) ⊎ ((a.place ≡ b.place) × (a.rule < b.rule))

-- the list has exactly those that are broken, in order
pub record ListFaults (broken faults : List RuleFault) : Type 0 where
  pub rising : AllPairs IsBefore faults
  pub exact : (fault : RuleFault) → Contains faults fault ↔ Contains broken fault
