-- What holds of the first fault, and of where sizes are told.
use Rattle.std.specs.Prelude.{◌≡◌, ℕ, ◌+◌, ◌≤◌, ◌<◌, true, List, [], ◌∷◌, ◌++◌, slice_get}
use Rattle.pearl_tree.specs.declared.fault.RuleFault.{RuleFault}
use Rattle.pearl_tree.specs.declared.rule.TheConstants as rule
use Rattle.pearl_tree.specs.Faults.{ListFaults, fault_if}
use Rattle.pearl_names.specs.Tables.{Sense}
use Rattle.pearl_check.specs.Rules.{first}
use Rattle.pearl_check.specs.Sizes.{Declared, size_of, passed}

-- what is told is the first of those that are broken, in order
abbrev pub TellsFirst : Type 0
TellsFirst = (broken faults : List RuleFault) → ListFaults broken faults → first broken ≡ slice_get faults 0

-- one fault is told: at the last name of the shortest front whose size is above the limit
pub record TellsOne (added : Sense → ℕ) (limit : ℕ) (declared : List Declared) : Type 0 where
  pub before : List Declared
  pub last : Declared
  pub others : List Declared
  pub parts : declared ≡ before ++ last ∷ others
  pub within : size_of added before ≤ limit
  pub above : limit < size_of added before + added last.sense
  pub told : passed added limit 0 declared ≡ fault_if true last.name.place rule.S34

-- a size is told where the whole of it is above the limit, and nowhere else
abbrev pub TellsSizes : Type 0
TellsSizes = (added : Sense → ℕ) (limit : ℕ) (declared : List Declared) →
    (size_of added declared ≤ limit → passed added limit 0 declared ≡ []) ×
    (limit < size_of added declared → TellsOne added limit declared)
