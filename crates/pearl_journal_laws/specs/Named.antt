-- Which device a number names, and which task a name: the first that has it.
use Rattle.std.specs.Prelude.{◌≡◌, ◌≢◌, ℕ, ◌<◌, List, Some, slice_get}
use Rattle.pearl_value.specs.declared.kind.Kind.{Kind}
use Rattle.pearl_value.specs.declared.device.Device.{Device}
use Rattle.pearl_value.specs.declared.device.Device.TheVariants.{Interrupt, Terminal, Input}
use Rattle.pearl_value.specs.declared.device.Direction.{Direction}
use Rattle.pearl_value.specs.declared.device.Direction.TheVariants.{Out}
use Rattle.pearl_rules.specs.declared.setup.TaskEntry.{TaskEntry}

-- INTERRUPT(k)
abbrev pub IsInterrupt : (k : ℕ) → Device → Type 0
IsInterrupt k device = device ≡ Interrupt k

-- TERMINAL(k) of direction IN or INOUT
abbrev pub IsReadable : (k : ℕ) → Device → Type 0
IsReadable k device = (direction : Direction) × (device ≡ Terminal k direction) × (direction ≢ Out)

-- INPUT(k), whatever kind of values it has
abbrev pub IsInput : (k : ℕ) → Device → Type 0
IsInput k device = (kind : Kind) × (device ≡ Input k kind)

abbrev pub IsNamed : (name : List ℕ) → TaskEntry → Type 0
IsNamed name task = task.name.items ≡ name

-- one that is wanted stands at this place, and none before it
pub record IsFirst {X : Type 0} (IsWanted : X → Type 0) (all : List X) (place : ℕ) : Type 0 where
  pub found : X
  pub stands : slice_get all place ≡ Some found
  pub wanted : IsWanted found
  pub first : (before : ℕ) (other : X) → before < place → slice_get all before ≡ Some other → IsWanted other → ⊥

-- one that is wanted stands nowhere
abbrev pub IsNowhere : {X : Type 0} → (IsWanted : X → Type 0) → (all : List X) → Type 0
IsNowhere {X} IsWanted all = (place : ℕ) (other : X) → slice_get all place ≡ Some other → IsWanted other → ⊥
