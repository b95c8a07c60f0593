-- What is tested of a state that was read: N2 over the leaves of an object, in whose tables the first values of the slots stand; and
-- that it holds values.
use Rattle.std.specs.Prelude.{◌≡◌, ℕ, ◌++◌, List, length, replicate}
use Rattle.std.specs.List.{AllByRecursion, AllZip, flat_map}
use Rattle.pearl_value.specs.declared.kind.Kind.{Kind}
use Rattle.pearl_value.specs.Counts.{IsPreset}
use Rattle.pearl_value.specs.WellFormed.{IsValue, IsValueOf}
use Rattle.pearl_instructions.specs.declared.object.Parts.{Parts as Object}
use Rattle.pearl_records.specs.declared.record.CoreRecord.{CoreRecord}
use Rattle.pearl_records.specs.States.{count_of_sort, input_kinds, WaitsTyped, WaitsOf}
use Rattle.pearl_saved.specs.declared.saved.FrameRecord.{FrameRecord}
use Rattle.pearl_saved.specs.Rules.{HoldsHeld}

-- the kind of each slot
abbrev pub slot_kinds : Object → List Kind
slot_kinds o = flat_map (λ leaf. replicate leaf.slots leaf.kind) o.leaves

-- N2, where each slot has the kind of its leaf
pub record HasParts (o : Object) (core : CoreRecord) : Type 0 where
  pub slots : AllZip IsValueOf (slot_kinds o) core.slots
  pub as_many_counts : length core.counts ≡ length o.semaphores
  pub counts : AllByRecursion IsPreset core.counts
  pub switches : length core.switches ≡ count_of_sort o.devices 0
  pub as_many_terminals : length core.terminals ≡ count_of_sort o.devices 1
  pub terminals : AllByRecursion WaitsTyped core.terminals
  pub inputs : AllZip WaitsOf (input_kinds o.devices) core.inputs
  pub tasks : length core.tasks ≡ length o.tasks

-- what slots and inputs hold are values, each within its kind, as it is where a state fits its spelling
pub record HoldsValues (core : CoreRecord) : Type 0 where
  pub slots : AllByRecursion IsValue core.slots
  pub inputs : AllByRecursion (AllByRecursion IsValue) core.inputs

-- what frames hold is held well, as it is where a state fits its spelling
abbrev pub FramesHold : List (List FrameRecord) → Type 0
FramesHold stacks = AllByRecursion (AllByRecursion HoldsHeld) stacks
